-- `listed::Listed::rising` meets its contract. Invariant: each pair passed is of the n jobs and comes before the next, where there is one.
use Prim.Native.Nat.{ℕ, suc, ◌<◌}
use lib.ListN.{length}
use Rattle.chains.specs.Listed.{PairInRange, InOrder}
use Rattle.listed.proofs.Listed.rising.Given as goal

abbrev pub invariant-loop-at : goal.invariant-loop-at
invariant-loop-at l = (k : ℕ) → k < l.at → PairInRange l.n l.self.jobs.now l.self.successors.now k × (suc k < length l.self.jobs.now → InOrder l.self.jobs.now l.self.successors.now k)
