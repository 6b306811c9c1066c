-- Pairs in two lists by place.
use Prim.Native.Nat.{ℕ, ◌<◌}
use mathlib.Core.Bool.{false}
use mathlib.Core.List.{List}
use mathlib.Core.Logic.{inl, inr}
use lib.ListN.{length}
use Rattle.chains.specs.Listed.{NotRising}
use Rattle.listed.specs.Listed.{PlacedSays}

-- a pair at fault
pub fault_at : (n : ℕ) (js ss : List ℕ) (i : ℕ) → i < length js → PlacedSays n js ss i false → NotRising n js ss
fault_at n js ss i b (inl h) = inl (i, b, h)
fault_at n js ss i b (inr h) = inr (i, h.0, h.1)
