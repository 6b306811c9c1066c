use native.Mathlib.Omega.{arith}
use lib.ListN.{length}
use Rattle.joblist.specs.Limits.{most_jobs}
use Rattle.lists.specs.Lists.{◌!◌}
use Rattle.lists.proofs.Orders.{rank_below}
use Rattle.narrowing.specs.Windows.{win}
use Rattle.readhead.specs.Sweep.{Entered}
use Rattle.readhead.proofs.Sweeps.{going_start}
use Rattle.readhead.proofs.Turns.{turn_on, turn_reached, turn_found, turn_none}
use Rattle.readhead.proofs.sweep.sweep.Goals as goal
use Rattle.readhead.proofs.sweep.sweep.Goals.{After-put}

pub loop-k-init : goal.loop-k-init
loop-k-init c =
    let a = c.args in
    rw (c.new-tree.ensures.sums, c.new-tree.ensures.ends) (going_start (length a.est.now) most_jobs a.dur.now (win a.est.now a.lct.now))

pub returns : goal.returns
returns c = turn_none _ _ _ _ _ _ c.requires c.loop-k.k _ _ c.loop-k.invariant c.loop-k-test.false

pub put-requires : goal.put-requires
put-requires c =
    let s = c.requires in
    let j = c.args.stops.now ! c.loop-k.k in
    let b = s.by_stop.into c.loop-k.k c.loop-k-test.true in
    (omega (arith, s.placed.is j b, rank_below c.args.est.now (length c.args.est.now) j b, s.good.few), s.good.within.0 j, s.good.within.1.1.0 j)

-- ---- the job is in, and its latest end is tested

entered : (d : After-put) → Entered d.args.est.now d.args.dur.now (d.args.stops.now ! d.loop-k.k) d.loop-k.tree.sums d.loop-k.tree.ends d.put.new.self.sums d.put.new.self.ends
entered d = rw (d.requires.placed.is (d.args.stops.now ! d.loop-k.k) (d.requires.by_stop.into d.loop-k.k d.loop-k-test.true)) at d.put.ensures

pub start_of-a-requires : goal.start_of-a-requires
start_of-a-requires c =
    let e = entered (goal.at.start_of-a-requires c).After-put in
    turn_reached _ _ _ _ _ _ c.requires _ _ _ _ _ c.loop-k.invariant c.loop-k-test.true e _ c.due.ensures c.if-due.true

pub returns-then-due : goal.returns-then-due
returns-then-due c =
    let e = entered (goal.at.returns-then-due c).After-put in
    rw c.start_of-a.ensures (turn_found _ _ _ _ _ _ c.requires _ _ _ _ _ c.loop-k.invariant c.loop-k-test.true e _ c.due.ensures c.if-due.true)

pub loop-k-preserved : goal.loop-k-preserved
loop-k-preserved c =
    let e = entered (goal.at.loop-k-preserved c).After-put in
    turn_on _ _ _ _ _ _ c.requires _ _ _ _ _ c.loop-k.invariant c.loop-k-test.true e _ c.due.ensures c.if-due.false
