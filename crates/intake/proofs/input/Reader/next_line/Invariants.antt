-- `Reader::next_line` meets its contract and ends. Invariant: no more bytes may be stood at than before. The measure is how many may still be.
use Prim.Native.Nat.{◌≤◌}
use Rattle.intake.proofs.input.Reader.next_line.Given as goal

abbrev pub invariant-loop-self : goal.invariant-loop-self
invariant-loop-self g l = l.cursor.left ≤ l.fn.self.cursor.left

abbrev pub decreases-loop-self : goal.decreases-loop-self
decreases-loop-self g l = l.cursor.left
