-- `passes::settle` meets its contract: the values are chains' lengths below the limit, and their sum rises with each round.
use Prim.Native.Nat.{◌-◌, ◌*◌}
use Rattle.passes.specs.Rounds.{sum}
use Rattle.joblist.specs.Limits.{most_jobs}
use Rattle.passes.proofs.Settling.{Settling}
use Rattle.passes.proofs.settle.Given as goal

abbrev pub invariant-loop : goal.invariant-loop
invariant-loop g l = Settling (g.P.Pairs.coming l.pairs) l.p l.back l.top l.v

abbrev pub decreases-loop : goal.decreases-loop
decreases-loop g l = most_jobs * l.top - sum l.v
