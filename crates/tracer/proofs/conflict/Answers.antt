-- `tracer::conflict` meets its contract: each answer of the checker is a row of the table, and the promise goes with the row.
use mathlib.Core.Path.{sym, ap, ◌∙◌}
use mathlib.Core.Logic.{inl, inr}
use Rattle.narrowing.specs.Windows.{win}
use Rattle.answers.specs.Said.{number_of, says_check}
use Rattle.screen.proofs.Tests.{number_not_0}
use Rattle.promises.specs.Ask.{Admitted}
use Rattle.promises.proofs.Calls.{admitted_call}
use Rattle.timetable.specs.Table.{Call, call, asks, refusal_of}
use Rattle.tracer.proofs.Answering.{on_tested, on_refused, on_holds, on_rejected, on_clash, found_clash, clash_there}
use Rattle.tracer.proofs.conflict.Goals as goal
use Rattle.tracer.proofs.conflict.Goals.{Start, In_default}

abbrev asked : Start → Call
asked s = let a = s.args in call (win a.est.now a.lct.now) a.dur.now a.dem.now a.cap a.log.now

admitted : (d : In_default) → let a = d.args in Admitted (asks (call (win a.est.now a.lct.now) a.dur.now a.dem.now a.cap a.log.now))
unfolding refusal_of
admitted d = let a = d.args in admitted_call (asks (call (win a.est.now a.lct.now) a.dur.now a.dem.now a.cap a.log.now)) (sym d.in_default.ensures)

pub returns-in-Err : goal.returns-in-Err
returns-in-Err c =
    let r = c.in-Err.refusal in
    on_tested (asked (goal.at.returns-in-Err c).Start) c.args.count _ (number_of r) (number_not_0 r) c.in-Err.ensures c.refused.ensures

pub check_copies-requires : goal.check_copies-requires
check_copies-requires c = (admitted (goal.at.check_copies-requires c).In_default).0

-- ---- what the checker answered

pub marks-requires : goal.marks-requires
marks-requires c =
    let k = asked (goal.at.marks-requires c).Start in
    clash_there k c.args.count _ (found_clash k c.args.count _ _ c.in-Clash.ensures)

pub returns-in-Clash : goal.returns-in-Clash
returns-in-Clash c =
    let k = asked (goal.at.returns-in-Clash c).Start in
    on_clash k c.args.count _ _ (found_clash k c.args.count _ _ c.in-Clash.ensures) c.marks.ensures

pub returns-in-Refused : goal.returns-in-Refused
returns-in-Refused c =
    let at = goal.at.returns-in-Refused c in
    on_refused (asked at.Start) c.args.count _ (admitted at.In_default) _ c.in-Refused.ensures c.refused-in-Refused.ensures

-- it holds, or it is rejected
pub returns-in-Holds : goal.returns-in-Holds
returns-in-Holds c =
    let k = asked (goal.at.returns-in-Holds c).Start in
    let a = c.refused-in-Holds.ensures in
    elim c.in-Holds.is [
      | inl h ↦ on_holds k c.args.count _ h.0 (sym (ap says_check h.1) ∙ c.check_copies.ensures) a
      | inr h ↦ on_rejected k c.args.count _ h.0 h.1 (sym (ap says_check h.2) ∙ c.check_copies.ensures) a
    ]
