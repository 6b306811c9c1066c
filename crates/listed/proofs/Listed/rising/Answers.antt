use native.Mathlib.Omega.{arith}
use borrow.Author.Count.{below_more}
use Rattle.listed.proofs.Places.{fault_at}
use Rattle.listed.proofs.Listed.rising.Goals as goal

pub loop-at-init : goal.loop-at-init
loop-at-init c = λ k b. absurd (omega arith)

pub returns-then-not-placed : goal.returns-then-not-placed
returns-then-not-placed c =
    let a = c.args in
    let t = rw c.if-not-placed.true at c.placed.ensures in
    fault_at a.n a.self.now.jobs.now a.self.now.successors.now c.loop-at.at (omega (arith, c.loop-at-test.true)) t

pub loop-at-preserved : goal.loop-at-preserved
loop-at-preserved c = below_more _ _ c.loop-at.invariant (rw c.if-not-placed.false at c.placed.ensures)

pub returns : goal.returns
returns c =
    let f = c.loop-at.invariant in
    record { range = λ k h. (f k (omega (arith, c.loop-at-test.false))).0; order = λ k h. (f k (omega (arith, c.loop-at-test.false))).1 h }
