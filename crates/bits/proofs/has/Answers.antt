-- `bits::has` meets its contract: beyond the words there is no member, and in a word the mask tests the member's bit.
use mathlib.Core.Path.{sym, ◌∙◌}
use native.Mathlib.Omega.{arith}
use borrow.Author.Tests.{le-ltb}
use Rattle.members.proofs.Sets.{has_past, has_mask}
use Rattle.bits.proofs.has.Goals as goal

pub returns-then-k-set : goal.returns-then-k-set
returns-then-k-set c = let a = c.args in rw c.mask.ensures (has_mask a.set.now a.k)

pub returns-else-k-set : goal.returns-else-k-set
returns-else-k-set c = le-ltb _ _ (omega arith) ∙ sym (has_past _ _ (omega arith))
