-- Runs of the read head's call in which time-tabling moves nothing: both by their definitions, in one row, and the call's by its contract without
-- `answered`. A wrong row is refused at its own line.
use mathlib.Core.Path.{refl}
use Rattle.lists.specs.Lists.{Every}
use Rattle.lists.proofs.Every.{every_map}
use Rattle.timetable.specs.Table.{narrowed_by}
use Rattle.heads.specs.Promise.{sequenced}
use Rattle.worked.specs.HeadRuns.{HeadRun, HeadDue, HeadPinned, Unseen}
use Rattle.worked.specs.Sequenced.{unseen}
use Rattle.worked.proofs.Sequenced.{head_pinned}

pub unseen_right : Every (λ (x : HeadRun). HeadDue x × Unseen x) unseen
unfolding sequenced narrowed_by
unseen_right = (
  (refl, refl),  -- 170
  (
    (refl, refl),  -- 170
    (
      (refl, refl),  -- 171
      (
        (refl, refl),  -- 171
        (
          (refl, refl),  -- 172
          (
            (refl, refl),  -- 172
            (
              (refl, refl),  -- 173
              (
                (refl, refl),  -- 173
                (
                  (refl, refl),  -- 174
                  (
                    (refl, refl),  -- 175
                    (
                      (refl, refl),  -- 175
                      (
                        (refl, refl),  -- 176
                        (
                          (refl, refl),  -- 177
                          (
                            (refl, refl),  -- 178
                            (
                              (refl, refl),  -- 179
                              tt,
                            ),
                          ),
                        ),
                      ),
                    ),
                  ),
                ),
              ),
            ),
          ),
        ),
      ),
    ),
  ),
)

pub unseen_pinned : Every HeadPinned unseen
unseen_pinned = every_map (λ (x : HeadRun). HeadDue x × Unseen x) HeadPinned (λ x d. head_pinned x d.0) unseen unseen_right
