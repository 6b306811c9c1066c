use native.Mathlib.Omega.{arith}
use Rattle.peaks.proofs.Walks.{down_inner, down_step, down_none, down_found}
use Rattle.peaks.proofs.last_over.Goals as goal

pub loop-i-preserved : goal.loop-i-preserved
loop-i-preserved c =
    let D = c.loop-i.invariant.1 in
    (down_inner _ _ _ _ _ _ _ D (omega arith), down_step _ _ _ _ _ _ _ D (omega arith) (omega arith))

pub returns-then-limit-ld : goal.returns-then-limit-ld
returns-then-limit-ld c =
    λ f K. down_found _ _ _ _ _ _ _ c.loop-i.invariant.1 (omega arith) _ (λ h. omega (arith, c.min.ensures)) (λ h. omega (arith, c.min.ensures)) f K.levels

pub returns-then-ts-i : goal.returns-then-ts-i
returns-then-ts-i c = λ f K. down_none _ _ _ _ _ _ _ c.loop-i.invariant.1 (omega arith) (omega arith) f K.levels
