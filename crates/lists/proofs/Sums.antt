-- Sums below a number: term by term, one term, without a term, and of terms at places that are each met once.
use Prim.Native.Nat.{ℕ, zero, suc, ◌+◌, ◌≤◌, ◌<◌}
use native.Mathlib.Omega.{arith}
use native.Mathlib.Decide.{ℕ_discrete, dec_le}
use mathlib.Core.Path.{◌≡◌, refl, sym}
use mathlib.Core.Bool.{Bool, true, false, not}
use lib.Dec.{eqb}
use borrow.Author.Tests.{eq-eqb, ne_eqb}
use Rattle.lists.specs.Tests.{both, only}
use Rattle.lists.specs.Sums.{total}
use Rattle.lists.specs.Sets.{Set}
use Rattle.lists.proofs.Tests.{only_both}

pub total-zero : (f : ℕ → ℕ) → total f 0 ≡ 0
unfolding total
total-zero f = refl

pub total_suc : (f : ℕ → ℕ) (m : ℕ) → total f (suc m) ≡ total f m + f m
unfolding total
total_suc f m = refl

pub total_le : (f g : ℕ → ℕ) (m : ℕ) → ((k : ℕ) → k < m → f k ≤ g k) → total f m ≤ total g m
unfolding total
total_le f g zero h = omega arith
total_le f g (suc m) h = omega (arith, total_le f g m (λ k b. h k (omega arith)), h m (omega arith))

pub total_cong : (f g : ℕ → ℕ) (m : ℕ) → ((k : ℕ) → k < m → f k ≡ g k) → total f m ≡ total g m
unfolding total
total_cong f g zero h = refl
total_cong f g (suc m) h = omega (arith, total_cong f g m (λ k b. h k (omega arith)), h m (omega arith))

-- where a sum is less, some term is
pub total_less_some : (f g : ℕ → ℕ) (m : ℕ) → total f m < total g m → (k : ℕ) × (k < m) × (f k < g k)
unfolding total
total_less_some f g zero h = absurd (omega arith)
total_less_some f g (suc m) h = go (λ q. total_less_some f g m q)
  where
    go : (total f m < total g m → (k : ℕ) × (k < m) × (f k < g k)) → (k : ℕ) × (k < suc m) × (f k < g k)
    go rest = elim (dec_le (g m) (f m)) [ yes d ↦ (let y = rest (omega arith) in (y.0, omega (arith, y.1), y.2)) | no d ↦ (m, omega arith, omega arith) ]

-- one term is at most the sum
pub total_at : (f : ℕ → ℕ) (m k : ℕ) → k < m → f k ≤ total f m
unfolding total
total_at f zero k b = absurd (omega arith)
total_at f (suc m) k b = go (λ q. total_at f m k q)
  where
    go : (k < m → f k ≤ total f m) → f k ≤ total f (suc m)
    go h = elim (ℕ_discrete k m) [ yes e ↦ rw e (omega arith) | no e ↦ omega (arith, h (omega arith)) ]

-- ---- a sum without its term at a

unfoldable pub omitting : (ℕ → ℕ) → ℕ → ℕ → ℕ
omitting f a i = only (not (eqb i a)) (f i)

pub omitting_same : (f : ℕ → ℕ) (a : ℕ) → omitting f a a ≡ 0
unfolding omitting
omitting_same f a = rw (eq-eqb a a refl)

pub omitting_other : (f : ℕ → ℕ) (a i : ℕ) → (i ≡ a → ⊥) → omitting f a i ≡ f i
unfolding omitting
omitting_other f a i h = rw (ne_eqb i a h)

pub total_omitting : (f : ℕ → ℕ) (a m : ℕ) → a < m → total (omitting f a) m + f a ≡ total f m
unfolding total
total_omitting f a zero b = omega arith
total_omitting f a (suc m) b = go (λ q. total_omitting f a m q)
  where
    go : (a < m → total (omitting f a) m + f a ≡ total f m) → total (omitting f a) (suc m) + f a ≡ total f (suc m)
    go h =
        elim (ℕ_discrete m a) [
          | yes e ↦ rw e (omega (arith, omitting_same f a, total_cong (omitting f a) f a (λ k b. omitting_other f a k (omega arith))))
          | no e ↦ omega (arith, h (omega arith), omitting_other f a m e)
        ]

-- the same where each term counts by a test
pub total_others : (f : ℕ → Bool) (x : ℕ → ℕ) (a m : ℕ) → a < m
    → total (λ k. only (both (not (eqb k a)) (f k)) (x k)) m + only (f a) (x a) ≡ total (λ k. only (f k) (x k)) m
unfolding omitting
total_others f x a m b =
    omega (
      arith,
      total_cong (λ k. only (both (not (eqb k a)) (f k)) (x k)) (omitting (λ k. only (f k) (x k)) a) m (λ k c. only_both (not (eqb k a)) (f k) (x k)),
      total_omitting (λ k. only (f k) (x k)) a m b,
    )

-- where a sum is not 0, some term counts and is not 0
pub total_some_term : (f : ℕ → Bool) (x : ℕ → ℕ) (m : ℕ) → 0 < total (λ k. only (f k) (x k)) m → (j : ℕ) × (j < m) × (1 ≤ x j) × (f j ≡ true)
unfolding total
total_some_term f x zero h = absurd (omega arith)
total_some_term f x (suc m) h = go (f m) refl (λ q. total_some_term f x m q)
  where
    wider : (j : ℕ) × (j < m) × (1 ≤ x j) × (f j ≡ true) → (j : ℕ) × (j < suc m) × (1 ≤ x j) × (f j ≡ true)
    wider y = (y.0, omega arith, y.2, y.3)

    go : (c : Bool) → f m ≡ c → (0 < total (λ k. only (f k) (x k)) m → (j : ℕ) × (j < m) × (1 ≤ x j) × (f j ≡ true))
        → (j : ℕ) × (j < suc m) × (1 ≤ x j) × (f j ≡ true)
    go true e g = elim (dec_le 1 (x m)) [ yes d ↦ (m, omega arith, d, e) | no d ↦ wider (g (let z = rw e at h in omega arith)) ]
    go false e g = wider (g (let z = rw e at h in omega arith))

-- ---- terms at places that π gives

module _ (M : Set) (π : ℕ → ℕ) where
  -- f there, of the members below m
  abbrev placed : (ℕ → ℕ) → ℕ → ℕ
  placed f m = total (λ k. only (M k) (f (π k))) m

  -- each met once, they are no more than all of them
  pub placed_le : (m n : ℕ) → ((k : ℕ) → k < m → M k ≡ true → π k < n)
      → ((i k : ℕ) → i < m → k < m → M i ≡ true → M k ≡ true → π i ≡ π k → i ≡ k)
      → (f : ℕ → ℕ) → total (λ k. only (M k) (f (π k))) m ≤ total f n
  placed_le zero n in-it once f = omega (arith, total-zero (λ k. only (M k) (f (π k))))
  placed_le (suc m) n in-it once f =
      go (λ g. placed_le m n (λ k b. in-it k (omega arith)) (λ i k b c. once i k (omega arith) (omega arith)) g) (M m) refl
    where
      one : placed f (suc m) ≡ placed f m + only (M m) (f (π m))
      one = total_suc (λ k. only (M k) (f (π k))) m

      same : M m ≡ true → (k : ℕ) → k < m → (b : Bool) → M k ≡ b → only b (f (π k)) ≡ only b (omitting f (π m) (π k))
      same t k c false e = refl
      same t k c true e = sym (omitting_other f (π m) (π k) (λ q. absurd (omega (arith, once k m (omega arith) (omega arith) e t q))))

      go : ((g : ℕ → ℕ) → placed g m ≤ total g n) → (b : Bool) → M m ≡ b → placed f (suc m) ≤ total f n
      go rest false e = let z : only (M m) (f (π m)) ≡ 0 = rw e in omega (arith, one, z, rest f)
      go rest true e =
          let z : only (M m) (f (π m)) ≡ f (π m) = rw e in
          let y = total_cong (λ k. only (M k) (f (π k))) (λ k. only (M k) (omitting f (π m) (π k))) m (λ k c. same e k c (M k) refl) in
          omega (arith, one, z, y, rest (omitting f (π m)), total_omitting f (π m) n (in-it m (omega arith) e))
