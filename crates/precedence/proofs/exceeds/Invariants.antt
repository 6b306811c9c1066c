-- `precedence::exceeds` meets its contract: none of the first j is above h.
use Prim.Native.Nat.{ℕ, ◌≤◌, ◌<◌, ◌+◌}
use Rattle.lists.specs.Lists.{◌!◌}
use Rattle.precedence.proofs.exceeds.Given as goal

abbrev pub invariant-loop-j : goal.invariant-loop-j
invariant-loop-j l = (i : ℕ) → i < l.j → l.v ! i + l.p ! i ≤ l.h
