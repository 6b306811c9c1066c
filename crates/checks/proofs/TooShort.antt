-- Laws over the checker's contract where a window is too short (document 02, Item 3): a clash of the lowest such job where no record is claimed, else
-- the first is rejected with code 20. Refusals 7 and 6 come before either: `Checks.exactly` gives 7 for any good list with a ragged log, and 6 for any other
-- whose log is shorter than what is claimed.
use Prim.Native.Nat.{ℕ, ◌≤◌, ◌<◌}
use native.Mathlib.Omega.{arith}
use mathlib.Core.Path.{◌≡◌, refl, ◌∙◌}
use mathlib.Core.List.{[], ◌∷◌}
use mathlib.Core.Logic.{inl}
use Rattle.answers.specs.Said.{Word, said}
use Rattle.journal.specs.Journal.{room_of}
use Rattle.timetable.specs.Table.{Call, Admitted, TooShort}
use Rattle.checks.specs.Replay.{clashes, rejected, Checked, finds}
use Rattle.checks.specs.Promise.{Checks}
use Rattle.checks.proofs.Rows.{fate_answers}

module _ (c : Call) (count : ℕ) (a : Checked) (h : Checks c count a) (g : Admitted c) (j : ℕ) (s : TooShort c j) where
  pub too_short_unclaimed : count ≡ 0 → a ≡ finds (said Word.clash (0 ∷ j ∷ [])) c.win
  too_short_unclaimed e = fate_answers c count a h (clashes j) (g, omega arith) (rw e s) ∙ rw e

  pub too_short_claimed : 0 < count → count ≤ room_of c.log → a ≡ finds (said Word.rejected (0 ∷ 20 ∷ [])) c.win
  too_short_claimed b r = fate_answers c count a h (rejected 0 20) (g, r) (b, inl (j, s, refl))
