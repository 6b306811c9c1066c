-- `checker::check_log` meets its contract: its answer is the definition's, and the promise goes with that.
use Prim.Native.Nat.{◌≤◌}
use native.Mathlib.Omega.{arith}
use mathlib.Core.Path.{sym, ◌∙◌}
use Rattle.narrowing.specs.Windows.{win}
use Rattle.answers.specs.Said.{number_of}
use Rattle.screen.proofs.Tests.{number_not_0}
use Rattle.windows.proofs.TooShort.{answer_too_short, answer_long}
use Rattle.journal.specs.Journal.{room_of}
use Rattle.timetable.proofs.Calls.{admitted_call, call_admitted}
use Rattle.timetable.specs.Table.{Call, call, Admitted, TooShort, AllLong}
use Rattle.checker.proofs.Answered.{promised, row_refused, row_six, row_short_claimed, row_short_unclaimed, row_judged}
use Rattle.checker.proofs.check_log.Goals as goal
use Rattle.checker.proofs.check_log.Goals.{Start, In_default, Else-room-count, In-Some, In_default-lowest_too_short}

-- ---- the call, and what the tests have shown

abbrev called : Start → Call
called s = let a = s.args in call (win a.est.now a.lct.now) a.dur.now a.dem.now a.cap a.log.now

admitted : (d : In_default) → let a = d.args in Admitted (call (win a.est.now a.lct.now) a.dur.now a.dem.now a.cap a.log.now)
admitted d = let a = d.args in admitted_call (call (win a.est.now a.lct.now) a.dur.now a.dem.now a.cap a.log.now) (sym d.in_default.ensures)

enough : (d : Else-room-count) → d.args.count ≤ room_of d.args.log.now
enough d = omega (arith, d.room.ensures, d.if-room-count.false)

too_short : (d : In-Some) → let a = d.args in TooShort (call (win a.est.now a.lct.now) a.dur.now a.dem.now a.cap a.log.now) d.in-Some.short
too_short d = answer_too_short _ _ _ _ d.in-Some.ensures

all_long : (d : In_default-lowest_too_short) → let a = d.args in AllLong (call (win a.est.now a.lct.now) a.dur.now a.dem.now a.cap a.log.now)
all_long d = answer_long _ _ _ d.in_default-lowest_too_short.ensures

-- ---- the goals

pub returns-in-Err : goal.returns-in-Err
returns-in-Err c =
    let k = called (goal.at.returns-in-Err c).Start in
    let r = c.in-Err.refusal in
    rw c.from.ensures (promised k c.args.count _ (row_refused k c.args.count (number_of r) (number_not_0 r) c.in-Err.ensures))

pub returns-then-room-count : goal.returns-then-room-count
returns-then-room-count c =
    let at = goal.at.returns-then-room-count c in
    let k = called at.Start in
    let n = c.args.count in
    rw c.from-then-room-count.ensures
    (promised k n _ (row_six k n (call_admitted k (admitted at.In_default)) (omega (arith, c.room.ensures, c.if-room-count.true))))

pub lowest_too_short-requires : goal.lowest_too_short-requires
lowest_too_short-requires c = let g = (admitted (goal.at.lowest_too_short-requires c).In_default).0 in (g.sized.1.0, g.sized.1.1.0)

pub returns-then-count-gt0 : goal.returns-then-count-gt0
returns-then-count-gt0 c =
    let at = goal.at.returns-then-count-gt0 c in
    let k = called at.Start in
    let n = c.args.count in
    rw c.from-then-count-gt0.ensures
    (promised k n _ (row_short_claimed k n _ (admitted at.In_default) (too_short at.In-Some) (omega (arith, c.if-count-gt0.true)) (enough at.Else-room-count)))

pub returns-else-count-gt0 : goal.returns-else-count-gt0
returns-else-count-gt0 c =
    let at = goal.at.returns-else-count-gt0 c in
    let k = called at.Start in
    let n = c.args.count in
    promised k n _ (row_short_unclaimed k n _ (admitted at.In_default) (too_short at.In-Some) (omega (arith, c.if-count-gt0.false)))

pub on_copies-requires : goal.on_copies-requires
on_copies-requires c =
    let at = goal.at.on_copies-requires c in
    let g = (admitted at.In_default).0 in
    (record { sized = g.sized; few = g.few; within = g.within; beside = g.beside }, enough at.Else-room-count)

pub returns : goal.returns
returns c =
    let at = goal.at.returns c in
    let k = called at.Start in
    promised k c.args.count _
    (c.on_copies.ensures
    ∙ row_judged k c.args.count (admitted at.In_default, enough at.Else-room-count) (all_long at.In_default-lowest_too_short))
