-- `theta::Tree::new` meets its contract: in the tree of no jobs every node is what its children say.
use Rattle.joblist.specs.Limits.{most_jobs}
use Rattle.theta.proofs.Climbs.{start_sound}
use Rattle.theta.proofs.Tree.new.Goals as goal

pub invariant_of-result : goal.invariant_of-result
invariant_of-result c = start_sound most_jobs
