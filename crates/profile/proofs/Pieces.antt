-- The points in order, and the piece of a time found by halving.
use Prim.Native.Nat.{ℕ, zero, suc, ◌+◌, ◌-◌, ◌≤◌, ◌<◌}
use native.Mathlib.Omega.{arith}
use mathlib.Core.Path.{◌≡◌}
use mathlib.Core.List.{List}
use Rattle.lists.specs.Lists.{◌!◌}
use Rattle.profile.specs.Steps.{Grid}

-- a later point lies no earlier
pub ordered : {ts : List ℕ} {m : ℕ} → Grid ts m → (i d : ℕ) → i + d ≤ m → ts ! i ≤ ts ! (i + d)
ordered {ts} P i zero h = let e : i + 0 ≡ i = omega arith in rw e (omega arith)
ordered {ts} P i (suc d) h =
    let e : i + suc d ≡ i + d + 1 = omega arith in
    rw e (omega (arith, ordered P i d (omega arith), P.rises (i + d) (omega arith)))

pub in_order : {ts : List ℕ} {m : ℕ} → Grid ts m → (i k : ℕ) → i ≤ k → k ≤ m → ts ! i ≤ ts ! k
in_order {ts} P i k a b = let e : k ≡ i + (k - i) = omega arith in rw e (ordered P i (k - i) (omega arith))

-- x lies between the point `base` and the one `size` further
pub record Halving (ts : List ℕ) (m x base size : ℕ) : Type 0 where
  pub grid : Grid ts m
  pub some : 1 ≤ size
  pub within : base + size ≤ m
  pub from : ts ! base ≤ x
  pub to : x < ts ! (base + size)
