-- One job's window inside another's, at a place of its own, and what a move of the other leaves of that.
use Prim.Native.Nat.{ℕ, ◌≤◌}
use mathlib.Core.Path.{◌≡◌}
use Rattle.lists.specs.Lists.{◌!◌}
use Rattle.lists.proofs.Lists.{set_any}
use Rattle.narrowing.specs.Windows.{Win, Side, early, late, moved, Respects}

-- the window of Y at place i lies inside that of W at place k
pub record Narrower (Y : Win) (i : ℕ) (W : Win) (k : ℕ) : Type 0 where
  pub early : W.e ! k ≤ Y.e ! i
  pub late : Y.l ! i ≤ W.l ! k

-- where it respects the new bound, it lies inside after a move too
pub moved_narrower : (Y W : Win) (i j k : ℕ) (v : Side) (b : ℕ) → Narrower Y i W k → (k ≡ j → Respects Y i v b) → Narrower Y i (moved W j v b) k
moved_narrower Y W i j k early b h f = record { early = set_any (λ (y : ℕ). y ≤ Y.e ! i) W.e j b k f h.early; late = h.late }
moved_narrower Y W i j k late b h f = record { early = h.early; late = set_any (λ (y : ℕ). Y.l ! i ≤ y) W.l j b k f h.late }
