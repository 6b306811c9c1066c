use native.Mathlib.Omega.{arith}
use lib.Count.{ones-le}
use Rattle.members.proofs.Sets.{ones_drop, ones_end}
use Rattle.bits.proofs.count.Goals as goal

pub loop-word-preserved : goal.loop-word-preserved
loop-word-preserved c =
    let x = c.args.set.now in
    let i = c.loop-word.word-index in
    let small = (c.type_inv.set i).fits in
    (omega (arith, ones-le 32 _ small), omega (arith, ones_drop x i (omega arith) small))

pub returns : goal.returns
returns c = omega (arith, ones_end c.args.set.now c.loop-word.word-index (omega arith))
