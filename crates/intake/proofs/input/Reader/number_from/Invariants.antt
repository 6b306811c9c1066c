-- `Reader::number_from` meets its contract and ends. Invariant: the value is at most `most`; the space was taken, and so was a digit where none stands there
-- now. The measure is how many bytes may still be stood at.
use Prim.Native.Nat.{◌≤◌, ◌-◌}
use Rattle.std.specs.Prelude.{◌≡◌, false}
use Rattle.intake.specs.Line.{at_digit}
use Rattle.intake.proofs.input.Reader.number_from.Given as goal

abbrev pub invariant-loop-digit : goal.invariant-loop-digit
invariant-loop-digit g l = (l.value ≤ l.most)
    × (l.cursor.left ≤ l.fn.cursor.left - 1)
    × (at_digit l.cursor.now ≡ false → l.cursor.left ≤ l.fn.cursor.left - 2)

abbrev pub decreases-loop-digit : goal.decreases-loop-digit
decreases-loop-digit g l = l.cursor.left
