-- `bits::join` meets its contract. The loop's invariant: the first `i` words of `more` are joined to the words.
use mathlib.Core.Path.{◌≡◌}
use lib.ListN.{take}
use Rattle.members.specs.Members.{joined}
use Rattle.bits.proofs.join.Given as goal

abbrev pub invariant-loop-i : goal.invariant-loop-i
invariant-loop-i l = l.set ≡ joined l.initial.set (take l.i l.more)
