-- Jobs that do not overlap need room for all of them: those of a set that lie between a and c last no longer than from a to c.
use Prim.Native.Nat.{ℕ, zero, suc, ◌+◌, ◌≤◌, ◌<◌}
use native.Mathlib.Omega.{arith}
use mathlib.Core.Path.{◌≡◌, refl, ap}
use mathlib.Core.Bool.{Bool, true, false, not}
use mathlib.Core.List.{List}
use mathlib.Core.Logic.{◌⊎◌, inl, inr}
use lib.Dec.{leb}
use borrow.Author.Tests.{leb-true, leb-false, not-true}
use Rattle.lists.specs.Lists.{◌!◌}
use Rattle.lists.specs.Tests.{both, only}
use Rattle.lists.specs.Sets.{Set, Parts, total_of}
use Rattle.lists.proofs.Tests.{both_true, true_both, by_contra}
use Rattle.lists.proofs.Sums.{total_suc, total-zero}
use Rattle.lists.proofs.Sets.{clash, total_of_parts}
use Rattle.heads.specs.Precedences.{Apart}

total_of_step : (p : List ℕ) (T : Set) (m : ℕ) → total_of (suc m) p T ≡ total_of m p T + only (T m) (p ! m)
unfolding total_of
total_of_step p T m = total_suc _ m

total_of_zero : (p : List ℕ) (T : Set) → total_of 0 p T ≡ 0
unfolding total_of
total_of_zero p T = total-zero (λ k. only (T k) (p ! k))

-- a set in two by a test
split : (m : ℕ) (T C : Set) → Parts m T (λ k. both (T k) (C k)) (λ k. both (T k) (not (C k)))
split m T C =
    record {
      left = λ k b t. (both_true (T k) (C k) t).0;
      right = λ k b t. (both_true (T k) (not (C k)) t).0;
      each = λ k b t. go k t (C k) refl;
      apart = λ k b t u. clash (C k) (both_true (T k) (C k) t).1 (not-true (C k) (both_true (T k) (not (C k)) u).1);
    }
  where
    go : (k : ℕ) → T k ≡ true → (c : Bool) → C k ≡ c → (both (T k) (C k) ≡ true) ⊎ (both (T k) (not (C k)) ≡ true)
    go k t true e = inl (true_both (T k) (C k) t e)
    go k t false e = inr (true_both (T k) (not (C k)) t (ap not e))

module _ (n : ℕ) (p s : List ℕ) (A : Apart n p s) where
  -- of two jobs that last, where the second does not end before the first starts, it starts when the first has ended
  pub apart_after : (i j : ℕ) → i < n → j < n → (j ≡ i → ⊥) → 1 ≤ p ! i → 1 ≤ p ! j → s ! i < s ! j + p ! j → s ! i + p ! i ≤ s ! j
  apart_after i j b c d u v h =
      by_contra _ _ (λ r. A (record { i = j; j = i; listed_i = c; listed_j = b; two = d; lasts_i = v; lasts_j = u; before = r; after = h }))

  -- the set's jobs below m last and lie between a and c
  abbrev pub Between : ℕ → Set → ℕ → ℕ → Type 0
  Between m T a c = (k : ℕ) → k < m → T k ≡ true → (1 ≤ p ! k) × (a ≤ s ! k) × (s ! k + p ! k ≤ c)

  -- the jobs that end before job m starts
  abbrev left : ℕ → Set
  left m k = leb (s ! k + p ! k) (s ! m)

  pub packed : (m : ℕ) → m ≤ n → (T : Set) (a c : ℕ) → a ≤ c → Between m T a c → a + total_of m p T ≤ c
  packed zero b T a c h f = omega (arith, total_of_zero p T)
  packed (suc m) b T a c h f = go (T m) refl (packed m (omega arith))
    where
      go : (d : Bool) → T m ≡ d → ((T : Set) (a c : ℕ) → a ≤ c → Between m T a c → a + total_of m p T ≤ c) → a + total_of (suc m) p T ≤ c
      go true e ih =
          let x = f m (omega arith) e in
          let u = ih (λ k. both (T k) (left m k)) a (s ! m) (omega arith)
          (λ k q t.
          let y = both_true (T k) (left m k) t in
          let z = f k (omega arith) y.0 in
          (z.0, z.1, leb-true _ _ y.1)) in
          let v = ih (λ k. both (T k) (not (left m k))) (s ! m + p ! m) c (omega arith)
          (λ k q t.
          let y = both_true (T k) (not (left m k)) t in
          let z = f k (omega arith) y.0 in
          (z.0, apart_after m k (omega arith) (omega arith) (λ w. omega arith) x.0 z.0 (leb-false _ _ (not-true _ y.1)), z.2)) in
          omega (arith, total_of_step p T m, ap (λ (d : Bool). only d (p ! m)) e, total_of_parts m p T _ _ (split m T (left m)))
      go false e ih =
          omega (arith, total_of_step p T m, ap (λ (d : Bool). only d (p ! m)) e, ih T a c h (λ k q t. f k (omega arith) t))
