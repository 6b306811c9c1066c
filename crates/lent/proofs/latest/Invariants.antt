-- `lent::latest` meets its contract: the first i places are made.
use Prim.Native.Nat.{ℕ, ◌<◌, ◌+◌}
use mathlib.Core.Path.{◌≡◌}
use Rattle.lists.specs.Lists.{◌!◌}
use Rattle.lent.proofs.latest.Given as goal

abbrev pub invariant-loop-i : goal.invariant-loop-i
invariant-loop-i l = (j : ℕ) → j < l.i → l.to ! j + l.tails ! j ≡ l.h
