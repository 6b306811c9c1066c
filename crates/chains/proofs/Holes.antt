-- Of n + 1 numbers below n two are equal: either a pair of equal ones is found, or the first n are all numbers below n (`lists: Orders onto`), the last
-- one among them.
use Prim.Native.Nat.{ℕ, suc, ◌≤◌, ◌<◌}
use native.Mathlib.Omega.{arith}
use native.Mathlib.Decide.{ℕ_discrete, dec_lt}
use mathlib.Core.Path.{◌≡◌, refl, sym}
use mathlib.Core.Bool.{Bool, true, false, not}
use lib.Dec.{eqb}
use Rattle.lists.specs.Tests.{every}
use Rattle.lists.proofs.Judged.{Judged, judged_every, judged_eqb, judged_not}
use Rattle.lists.proofs.Orders.{onto}

pub record Twice (f : ℕ → ℕ) (n : ℕ) : Type 0 where
  pub lo : ℕ
  pub hi : ℕ
  pub less : lo < hi
  pub within : hi ≤ n
  pub same : f lo ≡ f hi

module _ (n : ℕ) (f : ℕ → ℕ) (into : (i : ℕ) → i ≤ n → f i < n) where
  -- no two of them are equal
  apart? : Bool
  apart? = every (λ j. every (λ i. not (eqb (f i) (f j))) j) (suc n)

  judged_apart : Judged ((j : ℕ) → j < suc n → (i : ℕ) → i < j → f i ≡ f j → ⊥) ((j : ℕ) × (j < suc n) × ((i : ℕ) × (i < j) × (f i ≡ f j))) apart?
  unfolding apart?
  judged_apart =
      judged_every (λ j. (i : ℕ) → i < j → f i ≡ f j → ⊥) (λ j. (i : ℕ) × (i < j) × (f i ≡ f j)) (λ j. every (λ i. not (eqb (f i) (f j))) j)
      (λ j. judged_every (λ i. f i ≡ f j → ⊥) (λ i. f i ≡ f j) (λ i. not (eqb (f i) (f j))) (λ i. judged_not (judged_eqb (f i) (f j))) j) (suc n)

  none_apart : ((j : ℕ) → j < suc n → (i : ℕ) → i < j → f i ≡ f j → ⊥) → ⊥
  none_apart p =
      let t = onto n f (λ j b. into j (omega arith)) one (f n) (into n (omega arith)) in
      p n (omega arith) t.0 t.1 t.2
    where
      one : (i j : ℕ) → i < n → j < n → f i ≡ f j → i ≡ j
      one i j a b e =
          elim (ℕ_discrete i j) [
            | yes q ↦ q
            | no q ↦ elim (dec_lt i j) [ yes l ↦ absurd (p j (omega arith) i l e) | no l ↦ absurd (p i (omega arith) j (omega arith) (sym e)) ]
          ]

  pub holes : Twice f n
  holes = go apart? refl
    where
      go : (b : Bool) → apart? ≡ b → Twice f n
      go true h = absurd (none_apart (judged_apart.passed h))
      go false h = let x = judged_apart.failed h in record { lo = x.2.0; hi = x.0; less = x.2.1; within = omega (arith, x.1); same = x.2.2 }
