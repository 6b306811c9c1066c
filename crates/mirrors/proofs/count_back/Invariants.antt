-- `mirrors::count_back` meets its contract. The loop's invariant, `Counting`: the times that were met are counted back, the others as they were.
use Rattle.mirrors.proofs.Back.{Counting}
use Rattle.mirrors.proofs.count_back.Given as goal

abbrev pub invariant-loop-time : goal.invariant-loop-time
invariant-loop-time l = Counting l.initial.times l.times l.time-index
