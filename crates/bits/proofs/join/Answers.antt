use lib.ListN.{length}
use mathlib.Core.Path.{sym, ◌∙◌}
use native.Mathlib.Omega.{arith}
use native.Mathlib.Decide.{dec_le}
use Rattle.members.proofs.Joined.{joined_start, joined_next, joined_full, joined_all}
use Rattle.bits.proofs.join.Goals as goal

pub loop-i-init : goal.loop-i-init
loop-i-init c = sym (joined_start c.args.set.now c.args.more.now)

pub loop-i-preserved : goal.loop-i-preserved
loop-i-preserved c =
    let l = c.loop-i in
    let a = c.args in
    rw l.invariant (joined_next a.set.now a.more.now l.i (omega arith) (omega arith))

pub returns : goal.returns
returns c =
    let l = c.loop-i in
    let a = c.args in
    l.invariant
    ∙ elim (dec_le (length a.set.now) l.i) [
      | yes h ↦ joined_full a.set.now a.more.now l.i h
      | no h ↦ joined_all a.set.now a.more.now l.i (omega arith)
    ]
