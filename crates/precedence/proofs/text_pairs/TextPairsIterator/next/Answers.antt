use mathlib.Core.Path.{refl}
use Rattle.precedence.proofs.Pairs.{pulling_start, pulling_row, pulling_pair, pulling_done, pulling_stop}
use Rattle.precedence.proofs.text_pairs.TextPairsIterator.next.Goals as goal

pub loop-v-init : goal.loop-v-init
loop-v-init c = pulling_start _

pub advance-requires : goal.advance-requires
advance-requires c = (c.loop-v.self.fit, c.loop-v.self.few)

pub returns-in-Ok-Successor-clause-steps : goal.returns-in-Ok-Successor-clause-steps
returns-in-Ok-Successor-clause-steps c =
    let t = rw c.in-Ok-Successor.field-0-is at c.in-Ok-Successor.ensures in
    pulling_pair _ _ c.loop-v.invariant _ refl refl refl _ t

pub loop-v-smaller : goal.loop-v-smaller
loop-v-smaller c =
    let t = rw c.in-Ok-Begun.field-0-is at c.in-Ok-Begun.ensures in
    t.2

pub loop-v-preserved : goal.loop-v-preserved
loop-v-preserved c =
    let t = rw c.in-Ok-Begun.field-0-is at c.in-Ok-Begun.ensures in
    pulling_row _ _ c.loop-v.invariant _ refl refl refl _ _ t

pub returns-in-Ok-Done-clause-steps : goal.returns-in-Ok-Done-clause-steps
returns-in-Ok-Done-clause-steps c =
    let t = rw c.in-Ok-Done.field-0-is at c.in-Ok-Done.ensures in
    pulling_done _ _ c.loop-v.invariant t

pub returns-in-Err-clause-steps : goal.returns-in-Err-clause-steps
returns-in-Err-clause-steps c =
    pulling_stop _ _ c.loop-v.invariant _ c.in-Err.ensures
