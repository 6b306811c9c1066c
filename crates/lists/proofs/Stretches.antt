-- Sums below a number, cut in two: the first terms, and the terms after them.
use Prim.Native.Nat.{ℕ, zero, suc, ◌+◌}
use native.Mathlib.Omega.{arith}
use mathlib.Core.Path.{◌≡◌}
use Rattle.lists.specs.Sums.{total}

-- the first m terms, and the n terms after them
pub total_join : (f : ℕ → ℕ) (m n : ℕ) → total f (m + n) ≡ total f m + total (λ k. f (m + k)) n
unfolding total
total_join f m zero = let e : m + 0 ≡ m = omega arith in rw e (omega arith)
total_join f m (suc n) = let e : m + suc n ≡ suc (m + n) = omega arith in rw e (omega (arith, total_join f m n))

-- the first term, and the terms after it
pub total_first : (f : ℕ → ℕ) (n : ℕ) → total f (suc n) ≡ f 0 + total (λ k. f (suc k)) n
unfolding total
total_first f zero = omega arith
total_first f (suc n) = omega (arith, total_first f n)
