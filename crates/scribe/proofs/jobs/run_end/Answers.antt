use native.Mathlib.Omega.{arith}
use borrow.Author.Count.{below_more}
use Rattle.scribe.proofs.jobs.run_end.Goals as goal

pub loop-k-init : goal.loop-k-init
loop-k-init c = λ m l h. absurd (omega arith)

pub returns-then-jobs-k : goal.returns-then-jobs-k
returns-then-jobs-k c =
    record { from = omega arith; within = omega arith; same = λ m h l. c.loop-k.invariant m l h; stops = λ l q. c.if-jobs-k.true (omega (arith, q)) }

pub loop-k-preserved : goal.loop-k-preserved
loop-k-preserved c = below_more _ _ c.loop-k.invariant (λ h. omega (arith, c.if-jobs-k.false))

pub returns : goal.returns
returns c = record { from = omega arith; within = omega arith; same = λ m h l. c.loop-k.invariant m (omega arith) h; stops = λ l. absurd (omega arith) }
