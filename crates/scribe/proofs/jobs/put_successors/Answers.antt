use Prim.Native.Nat.{◌+◌}
use native.Mathlib.Omega.{arith}
use mathlib.Core.Path.{refl, ap, ◌∙◌}
use Rattle.scribe.specs.Says.{rest_of}
use Rattle.scribe.proofs.Puts.{room_same, going_start, going_room, going_step, going_end}
use Rattle.scribe.proofs.Steps.{number_same, byte_same, numbered_none, successors_step}
use Rattle.scribe.proofs.jobs.put_successors.Goals as goal

pub loop-i-init : goal.loop-i-init
loop-i-init g c = record { put = going_start _ _ _ _; same = refl }

pub overflow_add-successor : goal.overflow_add-successor
overflow_add-successor g c = omega (arith, c.requires.0.below c.loop-i.i c.loop-i-test.true)

pub put-requires : goal.put-requires
put-requires g c =
    let l = c.loop-i in
    let next = successors_step c.args.own.now l.i c.loop-i-test.true in
    room_same (going_room _ _ next c.requires.1 l.invariant.put) (omega arith)
    (number_same (omega arith) (byte_same (l.i + 1) _ c.mark_of.ensures (omega arith) (omega arith)))

pub loop-i-preserved : goal.loop-i-preserved
loop-i-preserved g c =
    let l = c.loop-i in
    let next = successors_step c.args.own.now l.i c.loop-i-test.true in
    record {
      put = going_step _ _ next c.requires.1 l.invariant.put (rw c.mark_of.ensures.byte at c.put.ensures.put);
      same = c.put.ensures.same ∙ l.invariant.same;
    }

pub returns : goal.returns
returns g c = record { put = going_end (ap rest_of (numbered_none _ _ c.loop-i-test.false)) c.loop-i.invariant.put; same = c.loop-i.invariant.same }
