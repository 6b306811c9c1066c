-- `passes::relax` meets its contract: the pairs passed have made the values of the first ones, and the rest makes of them what all pairs make.
use Rattle.passes.proofs.Relaxing.{Relaxing}
use Rattle.passes.proofs.relax.Given as goal

abbrev pub invariant-loop-a : goal.invariant-loop-a
invariant-loop-a g l =
    (goal.iterator-loop-a g).can_next l.a-iterator × (goal.iterator-loop-a g).is_finite l.a-iterator
    × Relaxing (g.P.Pairs.coming l.fn.pairs) (g.P.Pairs.coming l.a-iterator) l.p l.back l.top l.initial.v l.v l.changed
