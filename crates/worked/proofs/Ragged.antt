-- Ragged logs are refused as they are due: by narrowing's definition; by the checker's, and by its contract's field `exactly` alone. A wrong row is refused
-- at its own line.
use mathlib.Core.Path.{refl}
use Rattle.lists.specs.Lists.{Every}
use Rattle.timetable.specs.Table.{narrowed_by}
use Rattle.checks.specs.Replay.{checked}
use Rattle.worked.specs.Rows.{Right}
use Rattle.worked.specs.Logs.{Due, Pinned}
use Rattle.worked.specs.Ragged.{ragged_runs, ragged_logs}
use Rattle.worked.proofs.Checks.{pinned}

pub ragged_runs_lem : Every Right ragged_runs
unfolding narrowed_by
ragged_runs_lem = (
  refl,  -- 90
  (
    refl,  -- 90
    (
      refl,  -- 90
      (
        refl,  -- 91
        (
          refl,  -- 91
          (
            refl,  -- 91
            (
              refl,  -- 91
              (
                refl,  -- 92
                (
                  refl,  -- 92
                  (
                    refl,  -- 92
                    (
                      refl,  -- 93
                      (
                        refl,  -- 93
                        (
                          refl,  -- 94
                          (
                            refl,  -- 94
                            (
                              refl,  -- 95
                              (
                                refl,  -- 96
                                tt,
                              ),
                            ),
                          ),
                        ),
                      ),
                    ),
                  ),
                ),
              ),
            ),
          ),
        ),
      ),
    ),
  ),
)

pub ragged_logs_right : Every Due ragged_logs
unfolding checked
ragged_logs_right = (
  refl,  -- 7
  (
    refl,  -- 7
    (
      refl,  -- 7
      (
        refl,  -- 7
        (
          refl,  -- 7
          (
            refl,  -- 7
            (
              refl,  -- 7
              (
                refl,  -- 7
                (
                  refl,  -- 7
                  (
                    refl,  -- 3
                    (
                      refl,  -- 2
                      (
                        refl,  -- 1
                        (
                          refl,  -- 6
                          (
                            refl,  -- 40
                            tt,
                          ),
                        ),
                      ),
                    ),
                  ),
                ),
              ),
            ),
          ),
        ),
      ),
    ),
  ),
)

pub ragged_logs_pinned : Every Pinned ragged_logs
ragged_logs_pinned = pinned ragged_logs ragged_logs_right
