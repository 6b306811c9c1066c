use Rattle.walking.proofs.Checking.{checking_start, checking_successor}
use Rattle.walking.proofs.validate.Goals as goal

pub loop-u-init : goal.loop-u-init
loop-u-init c = checking_start _ _ _ _ _

pub loop-u-preserved-in-Successor : goal.loop-u-preserved-in-Successor
loop-u-preserved-in-Successor c =
    let t = rw c.in-Successor.is at c.in_ok-u.ensures in
    checking_successor _ _ _ _ _ _ _ _ _ c.loop-u.invariant _ _ t
