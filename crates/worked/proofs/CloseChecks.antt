-- The same of the logs just at a limit or just beside one.
use mathlib.Core.Path.{refl}
use Rattle.lists.specs.Lists.{Every}
use Rattle.checks.specs.Replay.{checked}
use Rattle.worked.specs.Logs.{Due, Pinned}
use Rattle.worked.specs.CloseChecks.{close_checks}
use Rattle.worked.proofs.Checks.{pinned}

pub close_checks_right : Every Due close_checks
unfolding checked
close_checks_right = (
  refl,  -- 25
  (
    refl,  -- 41
    (
      refl,  -- 40
      (
        refl,  -- 40
        (
          refl,  -- 22
          (
            refl,  -- 22
            (
              refl,  -- 22
              (
                refl,  -- 25
                (
                  refl,  -- 25
                  (
                    refl,  -- 25
                    (
                      refl,  -- 26
                      (
                        refl,  -- 25
                        (
                          refl,  -- 25
                          (
                            refl,  -- 25
                            (
                              refl,  -- 40
                              (
                                refl,  -- 40
                                (
                                  refl,  -- 21
                                  (
                                    refl,  -- 27
                                    (
                                      refl,  -- 27
                                      (
                                        refl,  -- 27
                                        tt,
                                      ),
                                    ),
                                  ),
                                ),
                              ),
                            ),
                          ),
                        ),
                      ),
                    ),
                  ),
                ),
              ),
            ),
          ),
        ),
      ),
    ),
  ),
)

pub close_checks_pinned : Every Pinned close_checks
close_checks_pinned = pinned close_checks close_checks_right
