-- Laws over the checker's answers, over any rules (document 02, Item 10): 7 is given exactly where the list is good and its log is ragged, whatever is
-- claimed, and every window is then as before.
use Prim.Native.Nat.{ℕ}
use native.Mathlib.Omega.{arith}
use mathlib.Core.Path.{◌≡◌, sym, ap, ◌∙◌}
use mathlib.Core.List.{[], ◌∷◌}
use mathlib.Core.Logic.{inl, inr, ◌↔◌}
use Rattle.answers.specs.Said.{Word, Said, said}
use Rattle.answers.proofs.Same.{not_said}
use Rattle.journal.specs.Journal.{Ragged}
use Rattle.promises.specs.Ask.{Ask, Good}
use Rattle.promises.proofs.Calls.{away_seven}
use Rattle.verdicts.specs.Replay.{Trial, Checked, finds, refuses}
use Rattle.verdicts.specs.Promise.{RefusedRow, Exactly}

module _ (T : Trial) (A : Ask) (count : ℕ) (a : Checked) (x : Exactly T A count a) where
  pub ragged_exactly : (a.says ≡ said Word.refused (7 ∷ [])) ↔ (Good A × Ragged A.log)
  ragged_exactly = (λ e. there ((x.refused 7).0 e), λ y. (x.refused 7).1 (inl ((away_seven A).1 y)))
    where
      there : RefusedRow A count 7 → Good A × Ragged A.log
      there (inl y) = (away_seven A).0 y
      there (inr y) = absurd (omega (arith, y.0))

  pub ragged_row : Good A → Ragged A.log → a ≡ refuses A.win 7
  ragged_row g f =
      let e = ragged_exactly.1 (g, f) in
      let word : a.says.word ≡ Word.refused = ap (λ (y : Said). y.word) e in
      let same = x.submitted (λ z. not_said Word.refused Word.holds (λ q. omega arith) (sym word ∙ z)) in
      ap (λ (y : Said). finds y a.win) e ∙ ap (finds (said Word.refused (7 ∷ []))) same
