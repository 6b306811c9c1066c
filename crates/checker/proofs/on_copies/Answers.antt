-- `checker::on_copies` meets its contract: the replay sees the saved windows, which are the submitted ones, and where it holds, what it made of them comes
-- back to the caller.
use mathlib.Core.Path.{◌≡◌, refl, sym, ap, ◌∙◌}
use lib.ListN.{length, take}
use Rattle.narrowing.specs.Windows.{Win, win}
use Rattle.windows.proofs.Copies.{saved_back}
use Rattle.journal.specs.Journal.{records}
use Rattle.answers.specs.Said.{code_number}
use Rattle.timetable.specs.Table.{Call, call}
use Rattle.timetable.proofs.Good.{ends_sized}
use Rattle.checks.specs.Replay.{Verdict, replay}
use Rattle.exam.specs.Lent.{jobs_in}
use Rattle.checker.proofs.Answered.{row_clash, row_rejected}
use Rattle.checker.proofs.on_copies.Goals as goal
use Rattle.checker.proofs.on_copies.Goals.{After-replayed, After-save-2, Start}

-- ---- the submitted windows: the call, and the verdict on them

abbrev asked : Start → Call
asked s = let a = s.args in call (win a.est.now a.lct.now) a.dur.now a.dem.now a.cap a.log.now

abbrev meant : Start → Verdict
meant s =
    let a = s.args in
    replay (jobs_in (length a.dur.now) a.dur.now a.dem.now a.cap) (win a.est.now a.lct.now) 0 (records a.log.now 0 a.count)

same : (d : After-save-2) → length d.args.est.now ≡ length d.args.lct.now
same d = sym (ends_sized d.requires.0)

starts-front : (d : After-save-2) → take (length d.args.est.now) d.save.new.to ≡ d.args.est.now
starts-front d = saved_back d.args.est.now _ d.save.new.to _ d.save.ensures refl

ends-front : (d : After-save-2) → take (length d.args.est.now) d.save-2.new.to ≡ d.args.lct.now
ends-front d = saved_back d.args.lct.now _ d.save-2.new.to _ d.save-2.ensures (same d)

abbrev left : After-replayed → Win
left d = win d.replayed.new.est d.replayed.new.lct

-- the copies are the windows as submitted
seen : (d : After-replayed) → let a = d.args in
    replay (jobs_in (length a.dur.now) a.dur.now a.dem.now a.cap) (win (take (length a.est.now) d.save.new.to) (take (length a.est.now) d.save-2.new.to)) 0 (records a.log.now 0 a.count)
    ≡ replay (jobs_in (length a.dur.now) a.dur.now a.dem.now a.cap) (win a.est.now a.lct.now) 0 (records a.log.now 0 a.count)
seen d = rw (saved_back d.args.est.now _ d.save.new.to _ d.save.ensures refl, saved_back d.args.lct.now _ d.save-2.new.to _ d.save-2.ensures (sym (ends_sized d.requires.0)))

-- ---- the goals

pub slice_bounds-replayed-end : goal.slice_bounds-replayed-end
slice_bounds-replayed-end c = ap length (sym (starts-front (goal.at.slice_bounds-replayed-end c).After-save-2))

pub slice_bounds-replayed-end-2 : goal.slice_bounds-replayed-end-2
slice_bounds-replayed-end-2 c = let d = (goal.at.slice_bounds-replayed-end-2 c).After-save-2 in same d ∙ ap length (sym (ends-front d))

pub replayed-requires : goal.replayed-requires
replayed-requires c =
    let d = (goal.at.replayed-requires c).After-save-2 in
    (rw (starts-front d, ends-front d) c.requires.0, c.requires.1)

pub returns-in-Err : goal.returns-in-Err
returns-in-Err c =
    let at = goal.at.returns-in-Err c in
    let bad = c.in-Err.bad in
    rw c.from.ensures (row_rejected (asked at.Start) c.args.count (meant at.Start) bad.place (code_number bad.code) (c.in-Err.ensures ∙ seen at.After-replayed))

pub returns-in-Ok-Some : goal.returns-in-Ok-Some
returns-in-Ok-Some c =
    let at = goal.at.returns-in-Ok-Some c in
    row_clash (asked at.Start) c.args.count (meant at.Start) _ ((rw c.in-Ok-Some.field-0-is at c.in-Ok-Some.ensures) ∙ seen at.After-replayed)
