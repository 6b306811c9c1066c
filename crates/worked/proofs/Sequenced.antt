-- The read head's call answers the runs of the table as they are due, by its definition and by the contract's facts alone (`exactly`). A wrong row is refused at its
-- own line. `Unseen` has those that time-tabling does not see.
use Prim.Native.Nat.{ℕ}
use mathlib.Core.Path.{refl, ◌∙◌}
use mathlib.Core.List.{List}
use Rattle.lists.specs.Lists.{Every}
use Rattle.lists.proofs.Every.{every_map}
use Rattle.heads.specs.Promise.{sequenced}
use Rattle.heads.proofs.Laws.{fields_answer}
use Rattle.worked.specs.HeadRuns.{HeadRun, HeadDue, HeadPinned}
use Rattle.worked.specs.Sequenced.{head_runs}

pub head_pinned : (x : HeadRun) → HeadDue x → HeadPinned x
head_pinned x d a h = fields_answer x.win x.p a h ∙ d

-- ---- the runs

pub head_runs_right : Every HeadDue head_runs
unfolding sequenced
head_runs_right = (
  refl,  -- 100
  (
    refl,  -- 101
    (
      refl,  -- 102
      (
        refl,  -- 103
        (
          refl,  -- 104
          (
            refl,  -- 104
            (
              refl,  -- 104
              (
                refl,  -- 105
                (
                  refl,  -- 106
                  (
                    refl,  -- 107
                    (
                      refl,  -- 108
                      (
                        refl,  -- 110
                        (
                          refl,  -- 111
                          (
                            refl,  -- 112
                            (
                              refl,  -- 113
                              (
                                refl,  -- 114
                                (
                                  refl,  -- 115
                                  (
                                    refl,  -- 120
                                    (
                                      refl,  -- 121
                                      (
                                        refl,  -- 122
                                        (
                                          refl,  -- 130
                                          (
                                            refl,  -- 131
                                            (
                                              refl,  -- 132
                                              (
                                                refl,  -- 140
                                                (
                                                  refl,  -- 141
                                                  (
                                                    refl,  -- 142
                                                    (
                                                      refl,  -- 150
                                                      (
                                                        refl,  -- 151
                                                        (
                                                          refl,  -- 160
                                                          (
                                                            refl,  -- 160
                                                            (
                                                              refl,  -- 160
                                                              (
                                                                refl,  -- 160
                                                                (
                                                                  refl,  -- 161
                                                                  (
                                                                    refl,  -- 161
                                                                    (
                                                                      refl,  -- 162
                                                                      (
                                                                        refl,  -- 162
                                                                        (
                                                                          refl,  -- 162
                                                                          tt,
                                                                        ),
                                                                      ),
                                                                    ),
                                                                  ),
                                                                ),
                                                              ),
                                                            ),
                                                          ),
                                                        ),
                                                      ),
                                                    ),
                                                  ),
                                                ),
                                              ),
                                            ),
                                          ),
                                        ),
                                      ),
                                    ),
                                  ),
                                ),
                              ),
                            ),
                          ),
                        ),
                      ),
                    ),
                  ),
                ),
              ),
            ),
          ),
        ),
      ),
    ),
  ),
)

pub head_runs_pinned : Every HeadPinned head_runs
head_runs_pinned = every_map HeadDue HeadPinned head_pinned head_runs head_runs_right
