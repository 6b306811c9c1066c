-- `theta::Tree::descend` meets its contract. The loop's invariant, `Walking`: what is left of the descent ends where the whole does.
-- The measure is what is left of the node's numbers: a child's number is the greater.
use Rattle.theta.proofs.Walks.{Walking}
use Prim.Native.Nat.{◌-◌, ◌*◌}
use Rattle.joblist.specs.Limits.{most_jobs}
use Rattle.theta.specs.Theta.{depth}
use Rattle.theta.proofs.Tree.descend.Given as goal

abbrev pub invariant-loop-v : goal.invariant-loop-v
invariant-loop-v l = Walking most_jobs depth l.self.sums l.self.ends l.b l.v l.tail

abbrev pub decreases-loop-v : goal.decreases-loop-v
decreases-loop-v l = 2 * most_jobs - l.v
