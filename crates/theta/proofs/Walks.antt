-- The descent as a program walks it: at node v, with the tail t, what is left of the descent ends where the whole does, v's leaves are leaves of
-- the tree, and the tail with v's total is no more than the root's.
use Prim.Native.Nat.{ℕ, zero, suc, ◌+◌, ◌*◌, ◌^◌, ◌≤◌, ◌<◌}
use native.Mathlib.Omega.{arith}
use native.Mathlib.Nat.{mul_assoc, mul-one, one-mul, add-mul, mul-suc, pow-suc, pow-zero}
use mathlib.Core.Path.{◌≡◌, refl, sym}
use mathlib.Core.Bool.{Bool, true, false}
use mathlib.Core.List.{List}
use lib.IntN.{ℤ, pos, ◌+ℤ◌}
use lib.Pow.{pow_pos}
use lib.Signed.{lt_z}
use Rattle.lists.specs.Lists.{◌!◌}
use Rattle.lists.specs.Tests.{pick}
use Rattle.theta.specs.Theta.{end_of, AllJoin, descent}

pub record Walking (m d : ℕ) (sums : List ℕ) (ends : List ℤ) (b v t : ℕ) : Type 0 where
  pub h : ℕ
  pub start : 1 ≤ v
  pub from : m ≤ v * 2 ^ h
  pub upto : (v + 1) * 2 ^ h ≤ 2 * m
  pub tail : t + sums ! v ≤ sums ! 1
  pub same : descent sums ends b d 1 0 ≡ descent sums ends b h v t

pub walk_start : (m d : ℕ) (sums : List ℕ) (ends : List ℤ) (b : ℕ) → m ≡ 2 ^ d → Walking m d sums ends b 1 0
walk_start m d sums ends b e =
    record { h = d; start = omega arith; from = omega (arith, one-mul (2 ^ d)); upto = omega (arith); tail = omega arith; same = refl }

module _ (m d : ℕ) (sums : List ℕ) (ends : List ℤ) (b v t : ℕ) (all : AllJoin m sums ends) (lt : v < m) (w : Walking m d sums ends b v t) where
  -- the right child's total may come into the tail
  pub walk_tail : t + sums ! (2 * v + 1) ≤ sums ! 1
  walk_tail = omega (arith, w.tail, (all v w.start lt).sum_is)

  pub walk_step : (right : Bool) → right ≡ lt_z (pos b) (end_of ends (2 * v + 1) +ℤ pos t)
      → Walking m d sums ends b (pick right (2 * v + 1) (2 * v)) (pick right t (t + sums ! (2 * v + 1)))
  unfolding descent
  walk_step right q = go w.h w.from w.upto w.same
    where
      left_is : (h : ℕ) → v * 2 ^ suc h ≡ (2 * v) * 2 ^ h
      left_is h = rw (pow-suc 2 h) (omega (arith, mul_assoc v (2 ^ h) 2, mul_assoc 2 v (2 ^ h)))

      side : (right : Bool) (h : ℕ) → m ≤ v * 2 ^ suc h → (v + 1) * 2 ^ suc h ≤ 2 * m
          → descent sums ends b d 1 0 ≡ descent sums ends b h (pick right (2 * v + 1) (2 * v)) (pick right t (t + sums ! (2 * v + 1)))
          → Walking m d sums ends b (pick right (2 * v + 1) (2 * v)) (pick right t (t + sums ! (2 * v + 1)))
      side true h f g s =
          record {
            h = h;
            start = omega arith;
            from = omega (arith, left_is h, add-mul (2 * v) 1 (2 ^ h));
            upto = omega (arith, left_is h, add-mul v 1 (2 ^ suc h), add-mul (2 * v + 1) 1 (2 ^ h), add-mul (2 * v) 1 (2 ^ h), pow-suc 2 h);
            tail = walk_tail;
            same = s;
          }
      side false h f g s =
          record {
            h = h;
            start = omega (arith, w.start);
            from = omega (arith, left_is h);
            upto = omega (arith, left_is h, add-mul v 1 (2 ^ suc h), add-mul (2 * v) 1 (2 ^ h), pow-suc 2 h);
            tail = omega (arith, w.tail, (all v w.start lt).sum_is);
            same = s;
          }

      go : (h : ℕ) → m ≤ v * 2 ^ h → (v + 1) * 2 ^ h ≤ 2 * m → descent sums ends b d 1 0 ≡ descent sums ends b h v t
          → Walking m d sums ends b (pick right (2 * v + 1) (2 * v)) (pick right t (t + sums ! (2 * v + 1)))
      go zero f g s = absurd (omega (arith, rw (pow-zero 2, mul-one v) at f))
      go (suc h) f g s = side right h f g (rw q s)

pub walk_end : (m d : ℕ) (sums : List ℕ) (ends : List ℤ) (b v t : ℕ) → m ≤ v → Walking m d sums ends b v t → v ≡ descent sums ends b d 1 0
unfolding descent
walk_end m d sums ends b v t f w = go w.h w.upto w.same
  where
    far : (x : ℕ) → 1 ≤ x → (v + 1) * (x * 2) ≤ 2 * m → ⊥
    far zero h g = omega arith
    far (suc x) h g = omega (arith, mul-suc (v + 1) (x * 2 + 1), mul-suc (v + 1) (x * 2))

    go : (h : ℕ) → (v + 1) * 2 ^ h ≤ 2 * m → descent sums ends b d 1 0 ≡ descent sums ends b h v t → v ≡ descent sums ends b d 1 0
    go zero g s = sym s
    go (suc h) g s = absurd (far (2 ^ h) (pow_pos h) (rw (pow-suc 2 h) at g))
