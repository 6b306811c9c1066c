-- Laws over time-tabling's answer table (document 02, Item 10): 7 is given exactly where the list is good and its log is ragged, and then every window and
-- every word of the log is as before. They are those of narrowing by rules.
use mathlib.Core.Path.{◌≡◌}
use mathlib.Core.List.{[], ◌∷◌}
use mathlib.Core.Logic.{◌↔◌}
use Rattle.answers.specs.Said.{Word, said}
use Rattle.journal.specs.Journal.{Ragged}
use Rattle.promises.proofs.Ragged as general
use Rattle.timetable.specs.Table.{Call, asks, Good, After, leaves}
use Rattle.timetable.specs.Promise.{Exactly}

module _ (c : Call) (a : After) (x : Exactly c a) where
  pub ragged_exactly : (a.says ≡ said Word.refused (7 ∷ [])) ↔ (Good c × Ragged c.log)
  ragged_exactly = general.ragged_exactly (asks c) a x

  pub ragged_row : Good c → Ragged c.log → a ≡ leaves (said Word.refused (7 ∷ [])) c.win c.log
  ragged_row = general.ragged_row (asks c) a x
