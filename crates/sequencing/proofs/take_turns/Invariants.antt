-- `sequencing::take_turns` meets its contract. The loop's invariant: the state is `Reached` (the moves made so far and what the defined work still gives
-- from the place reached are the defined run, and the lists are ready for a search on either side). The measure is `weight`. Each arm is one law over
-- `Reached`.
use Prim.Native.Nat.{◌-◌}
use mathlib.Core.Path.{◌≡◌}
use lib.ListN.{length}
use Rattle.mirrors.specs.Back.{told}
use Rattle.places.proofs.Going.{weight}
use Rattle.headturns.specs.Turns.{head_lists}
use Rattle.sequencing.proofs.Reached.{quota, Reached}
use Rattle.sequencing.proofs.take_turns.Given as goal

abbrev pub invariant-loop-at : goal.invariant-loop-at
invariant-loop-at l =
    (l.n ≡ length l.initial.starts) × Reached (told l.initial.starts l.initial.ends) l.dur (head_lists l.starts l.ends l.fore l.rear) l.at l.count

abbrev pub decreases-loop-at : goal.decreases-loop-at
decreases-loop-at l = weight (length l.initial.starts) l.at (quota (told l.initial.starts l.initial.ends) l.dur - l.count)
