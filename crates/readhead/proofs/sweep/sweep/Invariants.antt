-- `readhead::sweep::sweep` meets its contract. The loop's invariant, `Turning`: the tree holds the first k jobs by latest end, and every pair's b
-- has a job yet to come that ends by b.
use Rattle.readhead.proofs.Turns.{Turning}
use Rattle.readhead.proofs.sweep.sweep.Given as goal

abbrev pub invariant-loop-k : goal.invariant-loop-k
invariant-loop-k l = Turning l.est l.lct l.dur l.tree.sums l.tree.ends l.k
