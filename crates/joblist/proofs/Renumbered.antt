-- The same jobs listed in another order get the same refusal (`refusal_turned`): what the answer table says of one list, it says of the other.
use Prim.Native.Nat.{ℕ, zero, suc}
use native.Mathlib.Omega.{arith}
use native.Mathlib.Decide.{dec_lt}
use mathlib.Core.Path.{◌≡◌, refl, sym, ap, ◌∙◌}
use mathlib.Core.List.{List, [], ◌∷◌, ◌++◌}
use mathlib.Core.Logic.{inl, inr}
use lib.ListN.{length}
use Rattle.lists.specs.Lists.{◌!◌, Every}
use Rattle.lists.specs.Permutations.{Permutes, SameList}
use Rattle.lists.proofs.Lists.{beyond}
use Rattle.narrowing.specs.Windows.{Win}
use Rattle.narrowing.specs.Renumbered.{SameWin}
use Rattle.joblist.specs.Limits.{Column, jobs, three_lists}
use Rattle.joblist.specs.GoodList.{Sized, Within, Above, Any, Given, refusal}
use Rattle.joblist.specs.Renumbered.{SameColumn, SameColumns}
use Rattle.joblist.proofs.Refusals.{refusal_exactly}

module _ (n : ℕ) (π σ : ℕ → ℕ) (t : Permutes n π σ) where
  sized_same : (cs ds : List Column) → SameColumns n π cs ds → Every (Sized n) cs → Every (Sized n) ds
  sized_same [] [] v s = tt
  sized_same (c ∷ cs) (d ∷ ds) v s = (v.0.size ∙ s.0, sized_same cs ds v.1 s.1)
  sized_same [] (d ∷ ds) v s = elim v [ ]
  sized_same (c ∷ cs) [] v s = elim v [ ]

  unequal_same : (cs ds : List Column) → SameColumns n π cs ds → Any (λ c. Sized n c → ⊥) cs → Any (λ c. Sized n c → ⊥) ds
  unequal_same (c ∷ cs) (d ∷ ds) v (inl a) = inl (λ s. a (sym v.0.size ∙ s))
  unequal_same (c ∷ cs) (d ∷ ds) v (inr a) = inr (unequal_same cs ds v.1 a)
  unequal_same [] ds v x'' = elim x'' [ ]
  unequal_same (c ∷ cs) [] v _ = elim v [ ]

  within_one : (c d : Column) → SameColumn n π c d → Sized n c → Within c → Within d
  within_one c d v s w k =
      elim (dec_lt k n) [
        | yes h ↦ omega (arith, v.limit, v.numbers s k h, w (π k))
        | no h ↦ omega (arith, beyond d.list k (omega (arith, v.size, s)))
      ]

  within_same : (cs ds : List Column) → SameColumns n π cs ds → Every (Sized n) cs → Every Within cs → Every Within ds
  within_same [] [] v s w = tt
  within_same (c ∷ cs) (d ∷ ds) v s w = (within_one c d v.0 s.0 w.0, within_same cs ds v.1 s.1 w.1)
  within_same [] (d ∷ ds) v s w = elim v [ ]
  within_same (c ∷ cs) [] v s w = elim v [ ]

  above_one : (c d : Column) → SameColumn n π c d → Sized n c → Above c → Above d
  above_one c d v s a =
      elim (dec_lt a.0 n) [
        | yes h ↦
            let e : c.list ! π (σ a.0) ≡ c.list ! a.0 = ap (λ (i : ℕ). c.list ! i) (t.back a.0 h) in
            (σ a.0, omega (arith, v.limit, v.numbers s (σ a.0) (t.onto a.0 h), a.1))
        | no h ↦ absurd (omega (arith, a.1, beyond c.list a.0 (omega (arith, s))))
      ]

  above_same : (cs ds es : List Column) → SameColumns n π cs ds → Every (Sized n) cs → Any Above (cs ++ es) → Any Above (ds ++ es)
  above_same [] [] es v s a = a
  above_same (c ∷ cs) (d ∷ ds) es v s (inl a) = inl (above_one c d v.0 s.0 a)
  above_same (c ∷ cs) (d ∷ ds) es v s (inr a) = inr (above_same cs ds es v.1 s.1 a)
  above_same [] (d ∷ ds) es v s a = elim v [ ]
  above_same (c ∷ cs) [] es v s a = elim v [ ]

  module _ (cs ds es : List Column) (v : SameColumns n π cs ds) where
    given_same : (k : ℕ) → Given k n cs es → Given k n ds es
    given_same zero g = record { sized = sized_same cs ds v g.sized; few = g.few; within = within_same cs ds v g.sized g.within; beside = g.beside }
    given_same (suc zero) g = unequal_same cs ds v g
    given_same (suc (suc zero)) g = (sized_same cs ds v g.0, g.1)
    given_same (suc (suc (suc zero))) g = (sized_same cs ds v g.0, g.1, above_same cs ds es v g.0 g.2)
    given_same (suc (suc (suc (suc k)))) g = g

    -- the same refusal, whatever the order of the jobs
    pub refusal_turned : refusal n ds es ≡ refusal n cs es
    refusal_turned =
        let k = refusal n cs es in
        (refusal_exactly n ds es k).1 (given_same k ((refusal_exactly n cs es k).0 refl))

-- the lists of the calls
module _ (π σ : ℕ → ℕ) (W U : Win) (p q : List ℕ) (t : Permutes (jobs W) π σ) (b : jobs U ≡ jobs W) (w : SameWin (jobs W) π W U)
    (l : length U.l ≡ length W.l) (d : SameList (jobs W) π p q) (m : length q ≡ length p) where
  one : (xs ys : List ℕ) (most : ℕ) → length ys ≡ length xs → SameList (jobs W) π xs ys
      → SameColumn (jobs W) π (record { list = xs; most = most }) (record { list = ys; most = most })
  one xs ys most e f = record { limit = refl; size = e; numbers = λ z. f }

  three : SameColumns (jobs W) π (three_lists W p) (three_lists U q)
  three = (one _ _ _ b w.early, (one _ _ _ l w.late, (one _ _ _ m d, tt)))
