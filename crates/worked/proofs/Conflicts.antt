-- The call that names jobs answers the logs of the table as they are due, by its definition and by its contract's field `exactly` alone. A wrong row is
-- refused at its own line. And of two logs the records that their clashes need.
use Prim.Native.Nat.{◌*◌}
use mathlib.Core.Path.{◌≡◌, refl, ◌∙◌}
use mathlib.Core.Bool.{true, false}
use mathlib.Core.List.{[], ◌∷◌, ◌++◌}
use lib.ListN.{replicate}
use Rattle.lists.specs.Lists.{Every}
use Rattle.lists.proofs.Every.{every_map}
use Rattle.answers.specs.Said.{Word, said}
use Rattle.members.specs.Members.{has, ones_of}
use Rattle.journal.specs.Journal.{record_words, records}
use Rattle.timetable.specs.Search.{naming, lean_member}
use Rattle.timetable.specs.Table.{leaves, narrowed_by, narrowed}
use Rattle.checks.specs.Replay.{finds, checked}
use Rattle.conflicts.specs.Marks.{marked_by, needed_by}
use Rattle.conflicts.specs.Table.{conflict_of}
use Rattle.conflicts.proofs.Same.{facts_answer}
use Rattle.worked.specs.Rows.{windows_of, with, noted}
use Rattle.worked.specs.Conflicts.{MarksDue, MarksPinned, chain, chain_log, aside_log, pushed_aside, pushed_aside_log, traces}

pub traces_right : Every MarksDue traces
unfolding conflict_of
traces_right = (
  refl,  -- 80
  (
    refl,  -- 80
    (
      refl,  -- 80
      (
        refl,  -- 80
        (
          refl,  -- 80
          (
            refl,  -- 80
            (
              refl,  -- 80
              (
                refl,  -- 80
                (
                  refl,  -- 80
                  (
                    refl,  -- 80
                    (
                      refl,  -- 8
                      (
                        refl,  -- 8
                        (
                          refl,  -- 8
                          (
                            refl,  -- 8
                            (
                              refl,  -- 8
                              (
                                refl,  -- 8
                                (
                                  refl,  -- 8
                                  (
                                    refl,  -- 6
                                    (
                                      refl,  -- 6
                                      (
                                        refl,  -- 6
                                        (
                                          refl,  -- 7
                                          (
                                            refl,  -- 7
                                            (
                                              refl,  -- 3
                                              (
                                                refl,  -- 2
                                                (
                                                  refl,  -- 1
                                                  tt,
                                                ),
                                              ),
                                            ),
                                          ),
                                        ),
                                      ),
                                    ),
                                  ),
                                ),
                              ),
                            ),
                          ),
                        ),
                      ),
                    ),
                  ),
                ),
              ),
            ),
          ),
        ),
      ),
    ),
  ),
)

pub traces_pinned : Every MarksPinned traces
traces_pinned = every_map MarksDue MarksPinned (λ x d a y. facts_answer x.given x.count a y ∙ d) traces traces_right

-- the log of the row with the planner's own is the one that narrowing leaves
pub own_log : narrowed (with 1 chain (replicate (2 * record_words) 0)) ≡ leaves (said Word.clash (2 ∷ 1 ∷ [])) (with 1 chain []).win (noted 1 0 0 1 1 ++ noted 1 0 1 1 8)
unfolding narrowed_by naming lean_member ones_of
own_log = refl

-- ---- the records that a clash needs

-- the one that moves 1 beside the one that closes 3
pub chain_needed : needed_by 3 (records chain_log 0 3) ≡ noted 1 0 0 1 1 ∷ noted 3 0 1 1 2 ∷ []
unfolding needed_by records has
chain_needed = refl

-- the one that closes 3 alone, whose member is not sure without the first, is rejected
pub chain_closing_rejected : checked (with 1 chain (noted 3 0 1 1 2)) 1 ≡ finds (said Word.rejected (0 ∷ 25 ∷ [])) (windows_of chain)
unfolding checked
chain_closing_rejected = refl

-- the records that move 2 and 1 are left out, though 1 is marked in the end
pub aside_needed : needed_by 0 (records pushed_aside_log 0 4) ≡ noted 0 0 1 1 2 ∷ noted 0 0 2 1 8 ∷ []
unfolding needed_by records has
aside_needed = refl

pub aside_taken : checked (with 1 pushed_aside pushed_aside_log) 4 ≡ finds (said Word.clash (4 ∷ 0 ∷ [])) (windows_of pushed_aside)
unfolding checked
aside_taken = refl

pub aside_needed_taken : checked (with 1 pushed_aside (noted 0 0 1 1 2 ++ noted 0 0 2 1 8)) 2 ≡ finds (said Word.clash (2 ∷ 0 ∷ [])) (windows_of pushed_aside)
unfolding checked
aside_needed_taken = refl

-- those whose moved job is marked in the end, all but the first, are rejected: the record that moves 1 has lost its reason
pub marked_in_the_end : (marked_by 0 (records pushed_aside_log 0 4) 0 ≡ true) × (marked_by 0 (records pushed_aside_log 0 4) 1 ≡ true) × (marked_by 0 (records pushed_aside_log 0 4) 2 ≡ false)
unfolding marked_by records has
marked_in_the_end = (refl, refl, refl)

pub aside_rejected : checked (with 1 pushed_aside aside_log) 3 ≡ finds (said Word.rejected (1 ∷ 25 ∷ [])) (windows_of pushed_aside)
unfolding checked
aside_rejected = refl
