-- `loads::build` meets its contract. The loop's invariant: the lists keep the load of the jobs below k, in at most 2 k + 1 points (`Building`).
use Rattle.loads.proofs.Building.{Building}
use Rattle.loads.proofs.build.Given as goal

abbrev pub invariant-loop-k : goal.invariant-loop-k
invariant-loop-k l = Building l.est l.lct l.dur l.dem l.initial.ts l.ts l.ld l.kept l.k
