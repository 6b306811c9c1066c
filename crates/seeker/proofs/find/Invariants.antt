-- `seeker::find` meets its contract. The invariant is `Looking`: the lines from `at` on decide whether the headings are in order, and those found
-- start where `places` says.
use Prim.Native.Nat.{◌-◌}
use lib.ListN.{length}
use Rattle.seeker.proofs.Looking.{Looking}
use Rattle.seeker.proofs.find.Given as goal

abbrev pub invariant-loop-at : goal.invariant-loop-at
invariant-loop-at l = Looking l.text l.at l.found l.places

abbrev pub decreases-loop-at : goal.decreases-loop-at
decreases-loop-at l = length l.text - l.at
