use native.Mathlib.Omega.{arith}
use Rattle.peaks.proofs.Walks.{up_step, up_none, up_found}
use Rattle.peaks.proofs.first_over.Goals as goal

pub loop-i-preserved : goal.loop-i-preserved
loop-i-preserved c = up_step _ _ _ _ _ _ _ c.loop-i.invariant (omega arith) (omega arith)

pub returns-then-limit-ld : goal.returns-then-limit-ld
returns-then-limit-ld c =
    λ f K. up_found _ _ _ _ _ _ _ c.loop-i.invariant (omega arith) _ (λ h. omega (arith, c.max.ensures)) (λ h. omega (arith, c.max.ensures)) f K.levels

pub returns-then-b-ts : goal.returns-then-b-ts
returns-then-b-ts c = λ f K. up_none _ _ _ _ _ _ _ c.loop-i.invariant (omega arith) (omega arith) f K.levels
