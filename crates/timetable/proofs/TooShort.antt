-- Laws over time-tabling's contract (document 02, Item 3): a clash without a record is given exactly where the list is good, whole records fill the log and
-- a window is too short, of the lowest such job, whatever the room; windows and log are then as before. Demands 2 and 3 for such a list: there is no
-- schedule, and there are no stable windows that are long enough. They are those of narrowing by rules.
use Prim.Native.Nat.{ℕ, ◌+◌, ◌<◌}
use mathlib.Core.Path.{◌≡◌}
use mathlib.Core.List.{List, [], ◌∷◌}
use mathlib.Core.Logic.{◌↔◌}
use Rattle.lists.specs.Lists.{◌!◌}
use Rattle.answers.specs.Said.{Word, said}
use Rattle.joblist.specs.Limits.{jobs}
use Rattle.journal.specs.Journal.{WholeRecords}
use Rattle.promises.proofs.TooShort as general
use Rattle.timetable.specs.Table.{Call, asks, Admitted, TooShort, After, leaves}
use Rattle.timetable.specs.Promise.{Scheduled, NoneIn, needs, Narrowest, Narrows}
use Rattle.timetable.proofs.Meaning.{by_rules}

-- ---- of the list alone, and any job whose window is too short

module _ (c : Call) (j : ℕ) (b : j < jobs c.win) (short : c.win.l ! j < c.win.e ! j + c.p ! j) where
  pub too_short_unscheduled : (s : List ℕ) → Scheduled c c.win s → ⊥
  too_short_unscheduled = general.too_short_unscheduled (asks c) j b short

  pub too_short_none : NoneIn c
  too_short_none = general.too_short_none (asks c) j b short

-- no record is needed
pub too_short_needs : (c : Call) (j : ℕ) → TooShort c j → needs c ≡ 0
too_short_needs c = general.too_short_needs (asks c)

-- so demand 3 alone shuts out that such a list is refused, where the log is not ragged
pub too_short_decided : (c : Call) (a : After) → Narrowest c a → WholeRecords c.log → (j : ℕ) → TooShort c j → a.says.word ≡ Word.refused → ⊥
too_short_decided c a = general.too_short_decided (asks c) a

-- ---- of the answer

module _ (c : Call) (a : After) (h : Narrows c a) (j : ℕ) where
  -- what such a list gets
  pub too_short_row : Admitted c → TooShort c j → a ≡ leaves (said Word.clash (0 ∷ j ∷ [])) c.win c.log
  too_short_row = general.too_short_row (asks c) a (by_rules c a h) j

  -- and no other list
  pub too_short_exactly : (a.says ≡ said Word.clash (0 ∷ j ∷ [])) ↔ (Admitted c × TooShort c j)
  too_short_exactly = general.too_short_exactly (asks c) a (by_rules c a h) j
