-- `loads::follow` meets its contract: where there is no room the load is built anew, else the stretch by which the sure part has grown is raised, at its end
-- after a move of the start, at its beginning after one of the end.
use Rattle.joblist.specs.Limits.{most_time}
use mathlib.Core.Path.{◌≡◌}
use Prim.Native.Nat.{◌+◌, ◌≤◌}
use native.Mathlib.Omega.{arith}
use Rattle.lists.specs.Lists.{◌!◌}
use Rattle.minmax.proofs.MinMax.{min-is_lesser, max-is_greater}
use Rattle.windows.specs.Sides.{side_is}
use Rattle.windows.specs.declared.Side.TheVariants.{End}
use Rattle.timetable.proofs.Good.{window_within}
use Rattle.loads.proofs.Following.{follow_asks, followed_early, followed_late}
use Rattle.loads.proofs.follow.Goals as goal
use Rattle.loads.proofs.follow.Goals.{Start}

-- the job's earliest end, its latest end and the limit, in order
within : (s : Start) → let a = s.args in ((a.est.now ! a.job + a.dur.now ! a.job ≤ a.lct.now ! a.job) × (a.lct.now ! a.job ≤ most_time))
within s = window_within s.requires.0 s.args.job s.requires.1

was-later : (s : Start) → s.args.side ≡ End → s.args.lct.now ! s.args.job ≤ s.args.old
was-later s h = rw h at s.requires.2

pub overflow_sub-l : goal.overflow_sub-l
overflow_sub-l c = omega (arith, within (goal.at.overflow_sub-l c).Start)

pub grow-requires : goal.grow-requires
grow-requires c =
    let a = c.args in
    follow_asks c.requires.0 _ c.requires.1 (side_is a.side) a.old c.requires.4 (a.est.now ! a.job + a.dur.now ! a.job)
    (omega (arith, c.if-ts-kept.false)) (omega (arith, within (goal.at.grow-requires c).Start))

pub returns-in-Start : goal.returns-in-Start
returns-in-Start c =
    followed_early c.requires.0 _ c.requires.1 c.args.old (rw c.in-Start.is at c.requires.4) (rw c.in-Start.is at c.requires.2) _
    (rw c.max.ensures (max-is_greater _ _)) c.grow.ensures

pub overflow_sub-l-in-End : goal.overflow_sub-l-in-End
overflow_sub-l-in-End c = omega (arith, within (goal.at.overflow_sub-l-in-End c).Start)

pub overflow_sub-old : goal.overflow_sub-old
overflow_sub-old c = let s = (goal.at.overflow_sub-old c).Start in omega (arith, within s, was-later s c.in-End.is)

pub grow-requires-in-End : goal.grow-requires-in-End
grow-requires-in-End c =
    follow_asks c.requires.0 _ c.requires.1 (side_is c.args.side) c.args.old c.requires.4 c.min.result
    (omega (arith, c.if-ts-kept.false)) (omega (arith, within (goal.at.grow-requires-in-End c).Start, c.min.ensures))

pub returns-in-End : goal.returns-in-End
returns-in-End c =
    followed_late c.requires.0 _ c.requires.1 c.args.old (rw c.in-End.is at c.requires.4) (was-later (goal.at.returns-in-End c).Start c.in-End.is) _
    (rw c.min.ensures (min-is_lesser _ _)) c.grow-in-End.ensures
