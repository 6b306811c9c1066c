-- `rounds::work` meets its contract. The loop's invariant: the state is `Reached` (the moves made so far, whose records stand in the log, and what the
-- defined work still gives from the place reached are the defined run), and the two lists keep the load of the windows reached. The measure is
-- `weight`. Each arm is one law over `Reached`; after a move the load has followed it.
use Prim.Native.Nat.{◌-◌}
use mathlib.Core.Path.{◌≡◌}
use lib.ListN.{length}
use Rattle.narrowing.specs.Windows.{win}
use Rattle.journal.specs.Journal.{room_of}
use Rattle.timetable.specs.Table.{call}
use Rattle.loads.specs.Loads.{Loaded}
use Rattle.places.proofs.Going.{weight}
use Rattle.rounds.proofs.Reached.{Reached}
use Rattle.rounds.proofs.work.Given as goal

abbrev pub invariant-loop-at : goal.invariant-loop-at
invariant-loop-at l =
    (l.n ≡ length l.initial.est)
    × Reached (call (win l.initial.est l.initial.lct) l.dur l.dem l.cap l.initial.log) (win l.est l.lct) l.log l.at l.count
    × Loaded (win l.est l.lct) l.dur l.dem l.ts l.ld l.kept
    × (length l.ts ≡ length l.initial.ts)

abbrev pub decreases-loop-at : goal.decreases-loop-at
decreases-loop-at l = weight (length l.initial.est) l.at (room_of l.initial.log - l.count)
