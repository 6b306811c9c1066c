-- The checker answers the logs of the table as they are due, by its definition and by its contract's field `exactly` alone. A wrong row is refused at its own
-- line.
use mathlib.Core.Path.{refl, ◌∙◌}
use mathlib.Core.List.{List}
use Rattle.lists.specs.Lists.{Every}
use Rattle.lists.proofs.Every.{every_map}
use Rattle.checks.specs.Replay.{checked}
use Rattle.checks.proofs.Rows.{facts_answer}
use Rattle.worked.specs.Logs.{Log, Due, Pinned}
use Rattle.worked.specs.Checks.{checks}

pub checks_right : Every Due checks
unfolding checked
checks_right = (
  refl,  -- 40
  (
    refl,  -- 40
    (
      refl,  -- 40
      (
        refl,  -- 41
        (
          refl,  -- 41
          (
            refl,  -- 6
            (
              refl,  -- 6
              (
                refl,  -- 6
                (
                  refl,  -- 41
                  (
                    refl,  -- 20
                    (
                      refl,  -- 20
                      (
                        refl,  -- 20
                        (
                          refl,  -- 21
                          (
                            refl,  -- 21
                            (
                              refl,  -- 21
                              (
                                refl,  -- 22
                                (
                                  refl,  -- 22
                                  (
                                    refl,  -- 22
                                    (
                                      refl,  -- 23
                                      (
                                        refl,  -- 24
                                        (
                                          refl,  -- 25
                                          (
                                            refl,  -- 26
                                            (
                                              refl,  -- 20
                                              (
                                                refl,  -- 21
                                                (
                                                  refl,  -- 22
                                                  (
                                                    refl,  -- 23
                                                    (
                                                      refl,  -- 24
                                                      (
                                                        refl,  -- 25
                                                        (
                                                          refl,  -- 40
                                                          (
                                                            refl,  -- 40
                                                            (
                                                              refl,  -- 27
                                                              (
                                                                refl,  -- 24
                                                                (
                                                                  refl,  -- 40
                                                                  (
                                                                    refl,  -- 27
                                                                    (
                                                                      refl,  -- 27
                                                                      (
                                                                        refl,  -- 27
                                                                        (
                                                                          refl,  -- 20
                                                                          (
                                                                            refl,  -- 21
                                                                            (
                                                                              refl,  -- 22
                                                                              (
                                                                                refl,  -- 23
                                                                                (
                                                                                  refl,  -- 25
                                                                                  (
                                                                                    refl,  -- 26
                                                                                    tt,
                                                                                  ),
                                                                                ),
                                                                              ),
                                                                            ),
                                                                          ),
                                                                        ),
                                                                      ),
                                                                    ),
                                                                  ),
                                                                ),
                                                              ),
                                                            ),
                                                          ),
                                                        ),
                                                      ),
                                                    ),
                                                  ),
                                                ),
                                              ),
                                            ),
                                          ),
                                        ),
                                      ),
                                    ),
                                  ),
                                ),
                              ),
                            ),
                          ),
                        ),
                      ),
                    ),
                  ),
                ),
              ),
            ),
          ),
        ),
      ),
    ),
  ),
)

-- what the definition finds is what the field asks for
pub pinned : (xs : List Log) → Every Due xs → Every Pinned xs
pinned xs h = every_map Due Pinned (λ x d a y. facts_answer x.given x.count a y ∙ d) xs h

pub checks_pinned : Every Pinned checks
checks_pinned = pinned checks checks_right
