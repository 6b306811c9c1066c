-- `crowding::load_at` meets its contract. The loop's invariant: the sum is the load of the jobs below `k`.
use mathlib.Core.Path.{◌≡◌}
use Rattle.narrowing.specs.Windows.{win}
use Rattle.timetable.specs.Table.{jobs_of}
use Rattle.crowding.specs.Asked.{asked}
use Rattle.crowding.proofs.Steps.{load_below}
use Rattle.crowding.proofs.load_at.Given as goal

abbrev pub invariant-loop-k : goal.invariant-loop-k
invariant-loop-k l = l.sum ≡ load_below (jobs_of (asked l.est l.lct l.dur l.dem 0)) (win l.est l.lct) l.job l.t l.k
