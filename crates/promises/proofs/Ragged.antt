-- Laws over narrowing's answer table, over any rules (document 02, Item 10): 7 is given exactly where the list is good and its log is ragged, and then every
-- window and every word of the log is as before. A ragged log has no room for any number of records.
use Prim.Native.Nat.{ℕ}
use native.Mathlib.Omega.{arith}
use mathlib.Core.Path.{◌≡◌, sym, ap, ◌∙◌}
use mathlib.Core.List.{[], ◌∷◌}
use mathlib.Core.Logic.{inl, inr, ◌↔◌}
use Rattle.answers.specs.Said.{Word, Said, said}
use Rattle.answers.proofs.Same.{not_said}
use Rattle.journal.specs.Journal.{Ragged}
use Rattle.promises.specs.Ask.{Ask, Good}
use Rattle.promises.specs.Table.{After, leaves}
use Rattle.promises.specs.Promise.{HasRoom, RefusedRow, Exactly}
use Rattle.promises.proofs.Calls.{away_seven}
use Rattle.promises.proofs.Firm.{same_after}

pub ragged_roomless : (A : Ask) → Ragged A.log → (n : ℕ) → HasRoom A n → ⊥
ragged_roomless A f n r = f r.0

module _ (A : Ask) (a : After) (x : Exactly A a) where
  pub ragged_exactly : (a.says ≡ said Word.refused (7 ∷ [])) ↔ (Good A × Ragged A.log)
  ragged_exactly = (λ e. there ((x.refused 7).0 e), λ y. (x.refused 7).1 (inl ((away_seven A).1 y)))
    where
      there : RefusedRow A 7 → Good A × Ragged A.log
      there (inl y) = (away_seven A).0 y
      there (inr y) = absurd (omega (arith, y.0))

  pub ragged_row : Good A → Ragged A.log → a ≡ leaves (said Word.refused (7 ∷ [])) A.win A.log
  ragged_row g f =
      let e = ragged_exactly.1 (g, f) in
      let word : a.says.word ≡ Word.refused = ap (λ (y : Said). y.word) e in
      same_after a (leaves (said Word.refused (7 ∷ [])) A.win A.log) e
      (x.submitted (λ z. not_said Word.refused Word.settled (λ q. omega arith) (sym word ∙ z)))
      (x.before 7 (λ z. omega arith) e)
