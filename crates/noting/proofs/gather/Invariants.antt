-- `noting::gather` meets its contract. The loop's invariant: the set is that of the members named below k, and `left` are the demands still named once the
-- members below k have been gone through.
use mathlib.Core.Path.{◌≡◌}
use Rattle.narrowing.specs.Windows.{win}
use Rattle.timetable.specs.Table.{jobs_of}
use Rattle.searches.specs.Listed.{asked_of}
use Rattle.noting.proofs.Named.{gathered, still}
use Rattle.noting.proofs.gather.Given as goal

abbrev pub invariant-loop-k : goal.invariant-loop-k
invariant-loop-k l =
    (l.set ≡ gathered (jobs_of (asked_of l.list)) (win l.list.est.now l.list.lct.now) l.job l.t l.k)
    × (l.left ≡ still (jobs_of (asked_of l.list)) (win l.list.est.now l.list.lct.now) l.job l.t l.k)
