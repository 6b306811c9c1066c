-- Laws over the checker's answers (document 02, Item 10): 7 is given exactly where the list is good and its log is ragged, whatever is claimed, and every
-- window is then as before. They are those of any test of a record.
use Prim.Native.Nat.{ℕ}
use mathlib.Core.Path.{◌≡◌}
use mathlib.Core.List.{[], ◌∷◌}
use mathlib.Core.Logic.{◌↔◌}
use Rattle.answers.specs.Said.{Word, said}
use Rattle.journal.specs.Journal.{Ragged}
use Rattle.timetable.specs.Table.{Call, jobs_of, asks, Good}
use Rattle.verdicts.proofs.Ragged as general
use Rattle.checks.specs.Replay.{trial, Checked, refuses}
use Rattle.checks.specs.Promise.{Exactly}

module _ (c : Call) (count : ℕ) (a : Checked) (x : Exactly c count a) where
  pub ragged_exactly : (a.says ≡ said Word.refused (7 ∷ [])) ↔ (Good c × Ragged c.log)
  ragged_exactly = general.ragged_exactly (trial (jobs_of c)) (asks c) count a x

  pub ragged_row : Good c → Ragged c.log → a ≡ refuses c 7
  ragged_row = general.ragged_row (trial (jobs_of c)) (asks c) count a x
