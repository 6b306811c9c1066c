-- `searches::next_time` meets its contract: without a demand or a duration nothing is crowded; else the last, or the first, crowded time of the stretch is the
-- one that the definition finds.
use Prim.Native.Nat.{◌+◌, ◌≤◌}
use native.Mathlib.Omega.{arith}
use Rattle.lists.specs.Lists.{◌!◌}
use Rattle.joblist.specs.Limits.{most_time}
use Rattle.timetable.proofs.Good.{window_within}
use Rattle.windows.specs.Sides.{side_is}
use Rattle.searches.proofs.Answers.{rests, early_rests, early_moves, late_rests, late_moves}
use Rattle.searches.proofs.next_time.Goals as goal
use Rattle.searches.proofs.next_time.Goals.{Start}

-- the job's earliest end, its latest end and the limit, in order
within : (s : Start) → let a = s.args.list in let j = s.args.job in ((a.est.now ! j + a.dur.now ! j ≤ a.lct.now ! j) × (a.lct.now ! j ≤ most_time))
within s = window_within s.requires.0 s.args.job s.requires.1

pub returns-then-r-eq0 : goal.returns-then-r-eq0
returns-then-r-eq0 c = rests _ _ _ _ _ _ (side_is c.args.side) (λ t q. absurd (omega (arith, q.takes, q.lasts, c.then-r-eq0.either)))

pub overflow_sub-l : goal.overflow_sub-l
overflow_sub-l c = omega (arith, within (goal.at.overflow_sub-l c).Start)

pub early-x-requires : goal.early-x-requires
early-x-requires c =
    let w = within (goal.at.early-x-requires c).Start in
    (omega arith, omega arith, omega arith)

pub returns-then-e-x : goal.returns-then-e-x
returns-then-e-x c =
    let p = c.requires in
    rw c.in-Start.is (early_moves _ _ _ _ _ _ p.0 p.1 c.if-p-eq0.false c.if-r-eq0.false c.args.load p.2 _ c.early-x.ensures c.if-e-x.true)

pub returns-else-e-x : goal.returns-else-e-x
returns-else-e-x c =
    let p = c.requires in
    rw c.in-Start.is (early_rests _ _ _ _ _ _ p.0 p.1 c.if-p-eq0.false c.if-r-eq0.false c.args.load p.2 _ c.early-x.ensures c.if-e-x.false)

pub overflow_sub-l-in-End : goal.overflow_sub-l-in-End
overflow_sub-l-in-End c = omega (arith, within (goal.at.overflow_sub-l-in-End c).Start)

pub late-y-requires : goal.late-y-requires
late-y-requires c =
    let w = within (goal.at.late-y-requires c).Start in
    (omega arith, omega arith, omega arith)

pub returns-then-y-l : goal.returns-then-y-l
returns-then-y-l c =
    let p = c.requires in
    rw c.in-End.is (late_moves _ _ _ _ _ _ p.0 p.1 c.if-p-eq0.false c.if-r-eq0.false c.args.load p.2 _ c.late-y.ensures c.if-y-l.true)

pub returns-else-y-l : goal.returns-else-y-l
returns-else-y-l c =
    let p = c.requires in
    rw c.in-End.is (late_rests _ _ _ _ _ _ p.0 p.1 c.if-p-eq0.false c.if-r-eq0.false c.args.load p.2 _ c.late-y.ensures c.if-y-l.false)
