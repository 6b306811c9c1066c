-- `theta::Tree::put` meets its contract: with a leaf filled, every inner node but the leaf's parent is still what its children say. The loop's
-- invariant, `Climbing`: every inner node but v's parent is. The measure is v, which is halved.
use Rattle.joblist.specs.Limits.{most_jobs}
use Rattle.theta.proofs.Climbs.{Climbing}
use Rattle.theta.proofs.Tree.put.Given as goal

abbrev pub invariant-loop-v : goal.invariant-loop-v
invariant-loop-v l = Climbing most_jobs l.initial.self-inside.sums l.initial.self-inside.ends l.self-inside.sums l.self-inside.ends l.v

abbrev pub decreases-loop-v : goal.decreases-loop-v
decreases-loop-v l = l.v
