-- `scribe::jobs::run_end` finds the end of a job's run. The invariant: from i up to k there is job j alone.
use Prim.Native.Nat.{ℕ, ◌≤◌, ◌<◌}
use mathlib.Core.Path.{◌≡◌}
use Rattle.lists.specs.Lists.{◌!◌}
use Rattle.scribe.proofs.jobs.run_end.Given as goal

abbrev pub invariant-loop-k : goal.invariant-loop-k
invariant-loop-k l = (m : ℕ) → m < l.k → l.i ≤ m → l.jobs ! m ≡ l.j
