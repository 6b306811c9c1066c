-- Sums of sums in either order, and how many numbers of a stretch there are.
use Prim.Native.Nat.{ℕ, zero, suc, ◌+◌, ◌-◌, ◌≤◌, ◌<◌}
use native.Mathlib.Omega.{arith}
use native.Mathlib.Decide.{dec_lt, dec_le}
use mathlib.Core.Path.{◌≡◌, refl}
use lib.Dec.{leb, ltb}
use borrow.Author.Tests.{le-leb, lt-leb, lt-ltb, le-ltb}
use Rattle.lists.specs.Tests.{both, only}
use Rattle.lists.specs.Sums.{total}
use Rattle.lists.proofs.Differences.{total_zeros}

pub total_plus : (f g : ℕ → ℕ) (m : ℕ) → total (λ k. f k + g k) m ≡ total f m + total g m
unfolding total
total_plus f g zero = refl
total_plus f g (suc m) = omega (arith, total_plus f g m)

-- row by row or column by column
pub total_swap : (f : ℕ → ℕ → ℕ) (n m : ℕ) → total (λ t. total (λ k. f k t) n) m ≡ total (λ k. total (λ t. f k t) m) n
unfolding total
total_swap f n zero = omega (arith, total_zeros n)
total_swap f n (suc m) = omega (arith, total_swap f n m, total_plus (λ k. total (λ t. f k t) m) (λ k. f k m) n)

-- the numbers from a on, below b
pub count_from : (a b : ℕ) → total (λ t. only (leb a t) 1) b ≡ b - a
unfolding total
count_from a zero = omega arith
count_from a (suc b) = go (dec_le a b) (count_from a b)
  where
    go : Dec (a ≤ b) → total (λ t. only (leb a t) 1) b ≡ b - a → total (λ t. only (leb a t) 1) b + only (leb a b) 1 ≡ suc b - a
    go (yes h) e = rw (le-leb a b h) (omega arith)
    go (no h) e = let g : b < a = omega arith in rw (lt-leb a b g) (omega arith)

-- the p numbers from s on, as far as they lie below b
counted : (s p b : ℕ) → total (λ t. only (both (leb s t) (ltb t (s + p))) 1) b + (b - (s + p)) ≡ b - s
unfolding total
counted s p zero = omega arith
counted s p (suc b) = go (dec_le s b) (dec_lt b (s + p)) (counted s p b)
  where
    before : ℕ
    before = total (λ t. only (both (leb s t) (ltb t (s + p))) 1) b

    go : Dec (s ≤ b) → Dec (b < s + p) → before + (b - (s + p)) ≡ b - s → before + only (both (leb s b) (ltb b (s + p))) 1 + (suc b - (s + p)) ≡ suc b - s
    go (yes h) (yes g) e = rw (le-leb s b h, lt-ltb b (s + p) g) (omega arith)
    go (yes h) (no g) e = let q : s + p ≤ b = omega arith in rw (le-leb s b h, le-ltb b (s + p) q) (omega arith)
    go (no h) (yes g) e = let q : b < s = omega arith in rw (lt-leb s b q) (omega arith)
    go (no h) (no g) e = omega arith

pub count_stretch : (s p b : ℕ) → s + p ≤ b → total (λ t. only (both (leb s t) (ltb t (s + p))) 1) b ≡ p
count_stretch s p b h = omega (arith, counted s p b)
