-- `planner::narrow` meets its contract: a refusal by its number, a clash where a window is too short, else the work on copies, which are the caller's
-- windows at the front of two arrays. Settled windows come back from there; the caller's are else untouched, and a log that is short of room is cleared.
use Prim.Native.Nat.{ℕ}
use native.Mathlib.Omega.{arith}
use mathlib.Core.Path.{◌≡◌, refl, sym, ap, ◌∙◌}
use mathlib.Core.List.{List}
use lib.ListN.{length, take, drop}
use lib.Seq.{take_at}
use Rattle.narrowing.specs.Windows.{win}
use Rattle.answers.specs.declared.Answer.{Answer}
use Rattle.answers.specs.Said.{says}
use Rattle.screen.proofs.Tests.{number_not_0}
use Rattle.windows.proofs.Copies.{saved_back}
use Rattle.windows.proofs.TooShort.{answer_too_short, answer_long}
use Rattle.timetable.specs.Table.{Call, call, leaves, Admitted, Workable}
use Rattle.timetable.specs.Promise.{Narrows}
use Rattle.timetable.proofs.Calls.{admitted_call}
use Rattle.timetable.proofs.Good.{ends_sized}
use Rattle.planner.proofs.Answered.{win_by, log_by, cleared_same, refused, clashed, worked}
use Rattle.planner.proofs.narrow.Goals as goal
use Rattle.planner.proofs.narrow.Goals.{After-save-2, After-work-end, In_default, In_default-lowest_too_short}

-- ---- the call, and what the tests have shown

abbrev called : (e l p r : List ℕ) (cap : ℕ) (log : List ℕ) → Call
called e l p r cap log = call (win e l) p r cap log

admitted : (d : In_default) → let a = d.args in Admitted (called a.est.now a.lct.now a.dur.now a.dem.now a.cap a.log.now)
admitted d = let a = d.args in admitted_call (called a.est.now a.lct.now a.dur.now a.dem.now a.cap a.log.now) (sym d.in_default.ensures)

workable : (d : In_default-lowest_too_short) → let a = d.args in Workable (called a.est.now a.lct.now a.dur.now a.dem.now a.cap a.log.now)
workable d =
    let a = d.args in
    let A = admitted_call (called a.est.now a.lct.now a.dur.now a.dem.now a.cap a.log.now) (sym d.in_default.ensures) in
    record { good = A.0; long = answer_long _ _ _ d.in_default-lowest_too_short.ensures }

same : (d : In_default-lowest_too_short) → length d.args.est.now ≡ length d.args.lct.now
same d = sym (ends_sized (workable d).good)

-- ---- once both lists are saved: the fronts of the copies

starts-front : (d : After-save-2) → take (length d.args.est.now) d.save.new.to ≡ d.args.est.now
starts-front d = saved_back d.args.est.now _ d.save.new.to _ d.save.ensures refl

ends-front : (d : After-save-2) → length d.args.est.now ≡ length d.args.lct.now → take (length d.args.est.now) d.save-2.new.to ≡ d.args.lct.now
ends-front d z = saved_back d.args.lct.now _ d.save-2.new.to _ d.save-2.ensures z

-- ---- after the work: the promise for each answer

done : (d : After-work-end)
    → let r = d.args in
    let C = called r.est.now r.lct.now r.dur.now r.dem.now r.cap r.log.now in
    Admitted C → take (length r.est.now) d.save.new.to ≡ r.est.now → take (length r.est.now) d.save-2.new.to ≡ r.lct.now
    → (a : Answer) → d.work-end.result ≡ a
    → Narrows C (leaves (says a) (win_by C a (win d.work-end.new.est d.work-end.new.lct)) (log_by C a d.work-end.new.log))
done d A e l a x =
    let r = d.args in
    worked (called r.est.now r.lct.now r.dur.now r.dem.now r.cap r.log.now) A a _ _ _ _ e l (rw x at d.work-end.ensures)

-- ---- the goals

pub returns-in-Err : goal.returns-in-Err
returns-in-Err c = refused _ _ (c.from.ensures ∙ c.in-Err.ensures) (λ h. number_not_0 _ (sym c.from.ensures ∙ h))

pub lowest_too_short-requires : goal.lowest_too_short-requires
lowest_too_short-requires c =
    let g = (admitted (goal.at.lowest_too_short-requires c).In_default).0 in
    (g.sized.1.0, g.sized.1.1.0)

pub returns-in-Some : goal.returns-in-Some
returns-in-Some c = clashed _ (admitted (goal.at.returns-in-Some c).In_default) _ (answer_too_short _ _ _ _ c.in-Some.ensures)

pub save-requires : goal.save-requires
save-requires c = (workable (goal.at.save-requires c).In_default-lowest_too_short).good.few

pub save-requires-2 : goal.save-requires-2
save-requires-2 c =
    let d = (goal.at.save-requires-2 c).In_default-lowest_too_short in
    omega (arith, (workable d).good.few, same d)

pub work-end-requires : goal.work-end-requires
work-end-requires c =
    let d = (goal.at.work-end-requires c).After-save-2 in
    let t = (goal.at.work-end-requires c).In_default-lowest_too_short in
    rw (starts-front d, ends-front d (same t)) (workable t)

pub returns-in-Settled : goal.returns-in-Settled
returns-in-Settled c =
    let a = c.args in
    let w = (goal.at.returns-in-Settled c).After-work-end in
    let z = same (goal.at.returns-in-Settled c).In_default-lowest_too_short in
    let ef = starts-front (goal.at.returns-in-Settled c).After-save-2 in
    let lf = ends-front (goal.at.returns-in-Settled c).After-save-2 z in
    let n = length a.est.now in
    let e = c.restore.ensures ∙ take_at c.work-end.new.est (drop n c.save.new.to) n (w.work-end.auto.est ∙ ap length ef) in
    let l = c.restore-in-Settled.ensures ∙ take_at c.work-end.new.lct (drop n c.save-2.new.to) (length a.lct.now) (w.work-end.auto.lct ∙ ap length lf) in
    rw (c.in-Settled.is, e, l) (done w (admitted (goal.at.returns-in-Settled c).In_default) ef lf _ c.in-Settled.is)

pub returns-in-Clash : goal.returns-in-Clash
returns-in-Clash c =
    let d = (goal.at.returns-in-Clash c).After-save-2 in
    rw c.in-Clash.is
    (done (goal.at.returns-in-Clash c).After-work-end (admitted (goal.at.returns-in-Clash c).In_default) (starts-front d)
    (ends-front d (same (goal.at.returns-in-Clash c).In_default-lowest_too_short)) _ c.in-Clash.is)

pub returns-in-Refused : goal.returns-in-Refused
returns-in-Refused c =
    let d = (goal.at.returns-in-Refused c).After-save-2 in
    rw (c.in-Refused.is, c.clear.ensures ∙ cleared_same _ c.args.log.now c.work-end.auto.log)
    (done (goal.at.returns-in-Refused c).After-work-end (admitted (goal.at.returns-in-Refused c).In_default) (starts-front d)
    (ends-front d (same (goal.at.returns-in-Refused c).In_default-lowest_too_short)) _ c.in-Refused.is)
