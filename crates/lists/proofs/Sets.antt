-- Laws of sets: totals of subsets and of parts; the best of the members by any order; a set with a member has a least and a greatest.
use Prim.Native.Nat.{ℕ, zero, suc, ◌+◌, ◌*◌, ◌≤◌, ◌<◌}
use native.Mathlib.Omega.{arith}
use native.Mathlib.Nat.{suc-mul}
use native.Mathlib.Decide.{ℕ_discrete}
use mathlib.Core.Path.{◌≡◌, refl, sym, ◌∙◌}
use mathlib.Core.Bool.{Bool, true, false}
use mathlib.Core.List.{List}
use mathlib.Core.Logic.{◌⊎◌, inl, inr}
use lib.Dec.{ltb}
use borrow.Author.Tests.{ltb-true, ltb-false}
use Rattle.lists.specs.Lists.{◌!◌}
use Rattle.lists.specs.Tests.{both, either, only, pick, some?}
use Rattle.lists.specs.Sums.{total}
use Rattle.lists.specs.Sets.{Set, Sub, Empty, Parts, total_of, LeastOf, GreatestOf, best_of, most, fewest}
use Rattle.lists.proofs.Tests.{both_true, only_le, only_less}
use Rattle.lists.proofs.Sums.{total_le, total_less_some}

-- a test that passes and fails
pub clash : {A : Type 0} (b : Bool) → b ≡ true → b ≡ false → A
clash b h k = let z : ◌≡◌ {A = ℕ} 0 1 = cc in absurd (omega arith)

-- ---- totals

pub total_of_sub : (n : ℕ) (p : List ℕ) (T O : Set) → Sub n T O → total_of n p T ≤ total_of n p O
unfolding total_of
total_of_sub n p T O h = total_le _ _ n (λ k b. only_le (T k) (O k) (p ! k) (h k b))

-- where a set's total is less, it lacks a member of the other
pub total_of_beyond : (n : ℕ) (p : List ℕ) (T O : Set) → total_of n p T < total_of n p O → (k : ℕ) × (O k ≡ true) × (T k ≡ false)
unfolding total_of
total_of_beyond n p T O h =
    let y = total_less_some (λ k. only (T k) (p ! k)) (λ k. only (O k) (p ! k)) n h in
    let b = only_less (T y.0) (O y.0) (p ! y.0) y.2 in
    (y.0, b.1, b.0)

pub total_of_same : (n : ℕ) (p : List ℕ) (T O : Set) → Sub n T O → Sub n O T → total_of n p T ≡ total_of n p O
total_of_same n p T O h g = omega (arith, total_of_sub n p T O h, total_of_sub n p O T g)

pub total_of_cong : (n : ℕ) (p : List ℕ) (T O : Set) → ((k : ℕ) → k < n → T k ≡ O k) → total_of n p T ≡ total_of n p O
total_of_cong n p T O h = total_of_same n p T O (λ k b q. sym (h k b) ∙ q) (λ k b q. h k b ∙ q)

pub total_of_none : (n : ℕ) (p : List ℕ) (T : Set) → ((k : ℕ) → k < n → T k ≡ true → p ! k ≡ 0) → total_of n p T ≡ 0
unfolding total_of total
total_of_none zero p T f = refl
total_of_none (suc m) p T f = go (T m) refl (total_of_none m p T (λ k b t. f k (omega arith) t))
  where
    go : (c : Bool) → T m ≡ c → total_of m p T ≡ 0 → total_of m p T + only (T m) (p ! m) ≡ 0
    go true e h = rw e (omega (arith, f m (omega arith) e))
    go false e h = rw e (omega arith)

pub total_of_empty : (n : ℕ) (p : List ℕ) (T : Set) → Empty n T → total_of n p T ≡ 0
total_of_empty n p T f = total_of_none n p T (λ k b t. absurd (f k b t))

pub total_of_parts : (n : ℕ) (p : List ℕ) (T L R : Set) → Parts n T L R → total_of n p T ≡ total_of n p L + total_of n p R
unfolding total_of total
total_of_parts zero p T L R h = refl
total_of_parts (suc m) p T L R h =
    omega (
      arith,
      total_of_parts m p T L R
          (record {
            left = λ k b. h.left k (omega arith);
            right = λ k b. h.right k (omega arith);
            each = λ k b. h.each k (omega arith);
            apart = λ k b. h.apart k (omega arith);
          }),
      go (T m) refl (L m) refl (R m) refl,
    )
  where
    b : m < suc m
    b = omega arith

    go : (t : Bool) → T m ≡ t → (l : Bool) → L m ≡ l → (r : Bool) → R m ≡ r → only t (p ! m) ≡ only l (p ! m) + only r (p ! m)
    go true e true i true j = absurd (h.apart m b i j)
    go true e true i false j = omega arith
    go true e false i true j = omega arith
    go true e false i false j = elim (h.each m b e) [ inl q ↦ clash (L m) q i | inr q ↦ clash (R m) q j ]
    go false e true i true j = clash (T m) (h.left m b i) e
    go false e true i false j = clash (T m) (h.left m b i) e
    go false e false i true j = clash (T m) (h.right m b j) e
    go false e false i false j = omega arith

-- ---- the best of the members

module _ (better : ℕ → ℕ → Bool) (O : Set) (f : ℕ → ℕ) (y : ℕ) where
  abbrev One : ℕ → ℕ → Type 0
  One m z = (z ≡ y) ⊎ ((k : ℕ) × (k < m) × (O k ≡ true) × (z ≡ f k))

  best-is : (m : ℕ) → One m (best_of better O f y m)
  unfolding best_of
  best-is zero = inl refl
  best-is (suc m) = go (both (O m) (better (f m) (best_of better O f y m))) refl (best-is m)
    where
      go : (c : Bool) → both (O m) (better (f m) (best_of better O f y m)) ≡ c → One m (best_of better O f y m) → One (suc m) (pick c (f m) (best_of better O f y m))
      go true h i = inr (m, omega arith, (both_true (O m) (better (f m) (best_of better O f y m)) h).0, refl)
      go false h (inl q) = inl q
      go false h (inr (k, b, t, q)) = inr (k, omega arith, t, q)

  -- R a b: a is no worse than b
  module _ (R : ℕ → ℕ → Type 0) (same : (a : ℕ) → R a a) (chain : (a b c : ℕ) → R a b → R b c → R a c)
      (wins : (a b : ℕ) → better a b ≡ true → R a b) (loses : (a b : ℕ) → better a b ≡ false → R b a) where
    abbrev All : ℕ → ℕ → Type 0
    All m z = R z y × ((k : ℕ) → k < m → O k ≡ true → R z (f k))

    best_all : (m : ℕ) → All m (best_of better O f y m)
    unfolding best_of
    best_all zero = (same y, λ k b. absurd (omega arith))
    best_all (suc m) = go (O m) refl (better (f m) (best_of better O f y m)) refl (best_all m)
      where
        z : ℕ
        z = best_of better O f y m

        go : (c : Bool) → O m ≡ c → (d : Bool) → better (f m) z ≡ d → All m z → All (suc m) (pick (both c d) (f m) z)
        go true h true q i = (
          chain (f m) z y (wins (f m) z q) i.0,
          λ k b t. elim (ℕ_discrete k m) [ yes r ↦ rw r (same (f m)) | no r ↦ chain (f m) z (f k) (wins (f m) z q) (i.1 k (omega arith) t) ],
        )
        go true h false q i = (i.0, λ k b t. elim (ℕ_discrete k m) [ yes r ↦ rw r (loses (f m) z q) | no r ↦ i.1 k (omega arith) t ])
        go false h d q i = (i.0, λ k b t. elim (ℕ_discrete k m) [ yes r ↦ clash (O m) (rw r at t) h | no r ↦ i.1 k (omega arith) t ])

module _ (O : Set) (f : ℕ → ℕ) (y m : ℕ) where
  pub most_is : (most O f y m ≡ y) ⊎ ((k : ℕ) × (k < m) × (O k ≡ true) × (most O f y m ≡ f k))
  unfolding most
  most_is = best-is (λ x z. ltb z x) O f y m

  pub most_le : (y ≤ most O f y m) × ((k : ℕ) → k < m → O k ≡ true → f k ≤ most O f y m)
  unfolding most
  most_le =
      best_all (λ x z. ltb z x) O f y (λ a b. b ≤ a) (λ a. omega arith) (λ a b c h g. omega arith) (λ a b h. omega (arith, ltb-true)) (λ a b h. omega (arith, ltb-false)) m

  pub fewest_is : (fewest O f y m ≡ y) ⊎ ((k : ℕ) × (k < m) × (O k ≡ true) × (fewest O f y m ≡ f k))
  unfolding fewest
  fewest_is = best-is ltb O f y m

  pub fewest_le : (fewest O f y m ≤ y) × ((k : ℕ) → k < m → O k ≡ true → fewest O f y m ≤ f k)
  unfolding fewest
  fewest_le = best_all ltb O f y (λ a b. a ≤ b) (λ a. omega arith) (λ a b c h g. omega arith) (λ a b h. omega (arith, ltb-true)) (λ a b h. omega (arith, ltb-false)) m

-- a set with a member has a least and a greatest
module _ (n : ℕ) (x : List ℕ) (T : Set) (k : ℕ) (b : k < n) (t : T k ≡ true) where
  pub least_of : (a : ℕ) × LeastOf n x T a
  least_of = (low, go (fewest_is T (λ i. x ! i) (x ! k) n))
    where
      low : ℕ
      low = fewest T (λ i. x ! i) (x ! k) n

      all : (i : ℕ) → i < n → T i ≡ true → low ≤ x ! i
      all = (fewest_le T (λ i. x ! i) (x ! k) n).1

      go : (low ≡ x ! k) ⊎ ((i : ℕ) × (i < n) × (T i ≡ true) × (low ≡ x ! i)) → LeastOf n x T low
      go (inl e) = record { at = k; below = b; member = t; is = sym e; least = all }
      go (inr (i, c, u, e)) = record { at = i; below = c; member = u; is = sym e; least = all }

  pub greatest_of : (a : ℕ) × GreatestOf n x T a
  greatest_of = (high, go (most_is T (λ i. x ! i) (x ! k) n))
    where
      high : ℕ
      high = most T (λ i. x ! i) (x ! k) n

      all : (i : ℕ) → i < n → T i ≡ true → x ! i ≤ high
      all = (most_le T (λ i. x ! i) (x ! k) n).1

      go : (high ≡ x ! k) ⊎ ((i : ℕ) × (i < n) × (T i ≡ true) × (high ≡ x ! i)) → GreatestOf n x T high
      go (inl e) = record { at = k; below = b; member = t; is = sym e; greatest = all }
      go (inr (i, c, u, e)) = record { at = i; below = c; member = u; is = sym e; greatest = all }

-- ---- some member

pub some_at : (T : Set) (m k : ℕ) → k < m → T k ≡ true → some? T m ≡ true
unfolding some?
some_at T zero k b t = absurd (omega arith)
some_at T (suc m) k b t = go (T m) refl (λ q. some_at T m k q t)
  where
    go : (c : Bool) → T m ≡ c → (k < m → some? T m ≡ true) → either (T m) (some? T m) ≡ true
    go true e f = rw e
    go false e f = rw e (elim (ℕ_discrete k m) [ yes q ↦ clash (T m) (rw q at t) e | no q ↦ f (omega arith) ])

pub at_some : (T : Set) (m : ℕ) → some? T m ≡ true → (k : ℕ) × (k < m) × (T k ≡ true)
unfolding some?
at_some T zero h = clash false h refl
at_some T (suc m) h = go (T m) refl (λ q. at_some T m q)
  where
    go : (c : Bool) → T m ≡ c → (some? T m ≡ true → (k : ℕ) × (k < m) × (T k ≡ true)) → (k : ℕ) × (k < suc m) × (T k ≡ true)
    go true e f = (m, omega arith, e)
    go false e f = let x = f (rw e at h) in (x.0, omega arith, x.2)

-- n numbers of at most c
pub total_of_limit : (n : ℕ) (p : List ℕ) (T : Set) (c : ℕ) → ((k : ℕ) → p ! k ≤ c) → total_of n p T ≤ n * c
unfolding total_of total
total_of_limit zero p T c h = omega arith
total_of_limit (suc m) p T c h = omega (arith, total_of_limit m p T c h, go (T m), suc-mul m c)
  where
    go : (b : Bool) → only b (p ! m) ≤ c
    go true = h m
    go false = omega arith
