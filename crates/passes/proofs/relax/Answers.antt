use native.Mathlib.Omega.{arith}
use Rattle.joblist.specs.Limits.{most_jobs}
use Rattle.passes.proofs.Relaxing.{relaxing_start, relaxing_kept, relaxing_rose, relaxing_over, relaxing_same, relaxing_changed, both_below}
use Rattle.passes.proofs.relax.Goals as goal

pub loop-a-init : goal.loop-a-init
loop-a-init g c =
    let q = c.requires in
    rw c.into_iter-a-iterator.ensures.into_iter_gives (q.can, g.met.P.Pairs.ends _, relaxing_start _ _ _ _ _ c.told-v q.by_index.1)

pub bounds-p-i : goal.bounds-p-i
bounds-p-i g c =
    let d = g.met.P.Pairs.draws _ _ _ (rw c.in-Some.is at c.next.ensures.steps) in
    let e = both_below c.args.back _ _ _ _ _ most_jobs c.facing-i.ensures.0 c.facing-i.ensures.1 d.1 d.2 (omega arith) in
    e.0

pub lift-requires : goal.lift-requires
lift-requires g c =
    let q = c.requires in
    let l = c.loop-a.invariant.2 in
    let d = g.met.P.Pairs.draws _ _ _ (rw c.in-Some.is at c.next.ensures.steps) in
    let e = both_below c.args.back _ _ _ _ _ most_jobs c.facing-i.ensures.0 c.facing-i.ensures.1 d.1 d.2 (omega arith) in
    (e.0, e.1, omega (arith, l.low c.facing-i.result.0, q.n_le_most_jobs), omega (arith, q.by_index.0 c.facing-i.result.0))

pub loop-a-preserved-in-Kept : goal.loop-a-preserved-in-Kept
loop-a-preserved-in-Kept g c =
    let d = g.met.P.Pairs.draws _ _ _ (rw c.in-Some.is at c.next.ensures.steps) in
    let h = rw c.in-Kept.is at c.lift.ensures.0 in
    let on = rw c.in-Some.is at c.next.ensures.goes.keeps in
    (on, g.met.P.Pairs.ends _, relaxing_kept _ _ _ _ _ _ _ _ c.loop-a.invariant.2 _ _ _ d.0 _ _ c.facing-i.ensures.0 c.facing-i.ensures.1 _ h)

pub loop-a-preserved : goal.loop-a-preserved
loop-a-preserved g c =
    let d = g.met.P.Pairs.draws _ _ _ (rw c.in-Some.is at c.next.ensures.steps) in
    let e = both_below c.args.back _ _ _ _ _ most_jobs c.facing-i.ensures.0 c.facing-i.ensures.1 d.1 d.2 (omega arith) in
    let h = rw c.in-Rose.is at c.lift.ensures.0 in
    let on = rw c.in-Some.is at c.next.ensures.goes.keeps in
    (on, g.met.P.Pairs.ends _, relaxing_rose _ _ _ _ _ _ _ _ c.loop-a.invariant.2 _ _ _ d.0 _ _ c.facing-i.ensures.0 c.facing-i.ensures.1 _ e.1 h)

pub returns-in-High : goal.returns-in-High
returns-in-High g c =
    let d = g.met.P.Pairs.draws _ _ _ (rw c.in-Some.is at c.next.ensures.steps) in
    let h = rw c.in-High.is at c.lift.ensures.0 in
    (relaxing_over _ _ _ _ _ _ _ _ c.loop-a.invariant.2 _ _ _ d.0 _ _ c.facing-i.ensures.0 c.facing-i.ensures.1 _ h, c.lift.ensures.1)

pub returns-then-changed : goal.returns-then-changed
returns-then-changed g c =
    let l = c.loop-a.invariant.2 in
    let t = g.met.P.Pairs.draws _ _ _ (rw c.in-None.is at c.next.ensures.steps) in
    (relaxing_changed _ _ _ _ _ _ _ _ l t c.if-changed.true, l.long)

pub returns-else-changed : goal.returns-else-changed
returns-else-changed g c =
    let l = c.loop-a.invariant.2 in
    let t = g.met.P.Pairs.draws _ _ _ (rw c.in-None.is at c.next.ensures.steps) in
    (relaxing_same _ _ _ _ _ _ _ _ l t c.if-changed.false, l.long)
