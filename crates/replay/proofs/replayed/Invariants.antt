-- `replay::replayed` meets its contract. The loop's invariant is `Going`: the verdict on all records is that on the records left, from the windows reached,
-- and those are good.
use Rattle.narrowing.specs.Windows.{win}
use Rattle.replay.proofs.Going.{Going}
use Rattle.replay.proofs.replayed.Given as goal

abbrev pub invariant-loop-i : goal.invariant-loop-i
invariant-loop-i l = Going l.dur l.dem l.cap l.log l.count (win l.initial.est l.initial.lct) (win l.est l.lct) l.i-counter
