-- `bits::put` meets its contract: beyond the words nothing changes, and in a word the member's bit is set by its mask.
use mathlib.Core.Path.{sym}
use native.Mathlib.Omega.{arith}
use Rattle.members.specs.Members.{inserted}
use Rattle.members.proofs.Inserted.{inserted_past}
use Rattle.bits.proofs.put.Goals as goal

pub returns-then-at-set : goal.returns-then-at-set
unfolding inserted
returns-then-at-set c = rw c.mask.ensures

pub returns-else-at-set : goal.returns-else-at-set
returns-else-at-set c = sym (inserted_past _ _ (omega arith))
