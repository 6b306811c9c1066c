use native.Mathlib.Omega.{arith}
use Rattle.mirrors.proofs.Back.{counting_start, counting_step, counting_end}
use Rattle.mirrors.proofs.count_back.Goals as goal

pub loop-time-init : goal.loop-time-init
loop-time-init c = counting_start _

-- each time is within the limit
pub overflow_sub-time : goal.overflow_sub-time
overflow_sub-time c = let l = c.loop-time in omega (arith, l.invariant.left l.time-index (omega arith), c.requires l.time-index)

pub loop-time-preserved : goal.loop-time-preserved
loop-time-preserved c = let l = c.loop-time in counting_step _ _ _ l.invariant l.auto.times (omega arith)

pub returns : goal.returns
returns c = let l = c.loop-time in counting_end _ _ _ l.invariant l.auto.times (omega arith)
