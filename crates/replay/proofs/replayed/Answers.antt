use Rattle.std.proofs.Common.{rules}
use Rattle.std.proofs.lemmas.Result.{err_from_is_err_and, MatchResult-at_err}
use Rattle.answers.specs.Said.{code_number}
use native.Mathlib.Omega.{arith}
use mathlib.Core.Path.{◌≡◌, sym, ap, ◌∙◌}
use lib.ListN.{length}
use Rattle.narrowing.specs.Windows.{Win, win, moved}
use Rattle.journal.specs.Journal.{record_words, record_at, job_of, time_of}
use Rattle.journal.proofs.Records.{record_length}
use Rattle.timetable.specs.Time.{bound}
use Rattle.timetable.proofs.Good.{durations_sized, ends_sized}
use Rattle.codes.specs.Facts.{side, InRange}
use Rattle.codes.specs.Codes.{code}
use Rattle.exam.specs.Lent.{jobs_in}
use Rattle.replay.proofs.Going.{going_bad, going_on, going_last, going_more, going_end, taken_range, coded_ok, coded_bad, some_code}
use Rattle.replay.proofs.replayed.Goals as goal
use Rattle.replay.proofs.replayed.Goals.{After-closed, After-shift, After-show_record, After-unwrap-words, At-loop-i, In_ok-map_err}

-- ---- the record shown has all its words

shown-length : (d : After-show_record) → length d.show_record.result.now ≡ record_words
shown-length d =
    ap length d.show_record.ensures ∙ record_length d.args.log.now _ (omega (arith, d.requires.1, d.loop-i-test.true))

shown : (d : After-unwrap-words) → d.unwrap-words.result.now ≡ record_at d.args.log.now d.loop-i.i-counter
shown d = let whole = rw d.unwrap-words.ensures at d.as_array.ensures.cases in whole.same ∙ d.show_record.ensures

-- ---- a record that is taken, and the windows after it

taken : (d : In_ok-map_err) → let a = d.args in
    code (jobs_in (length a.dur.now) a.dur.now a.dem.now a.cap) (win d.loop-i.est d.loop-i.lct) d.unwrap-words.result.now ≡ 0
taken d = sym d.code_of.ensures ∙ coded_ok d.code_of.result d.in_ok-map_err.ensures.variant

listed : (d : In_ok-map_err) → let a = d.args in InRange (jobs_in (length a.dur.now) a.dur.now a.dem.now a.cap) d.unwrap-words.result.now
listed d =
    let a = d.args in
    taken_range a.dur.now a.dem.now a.cap (win d.loop-i.est d.loop-i.lct) d.unwrap-words.result.now (taken d)

abbrev after : After-shift → Win
after d = win d.shift.new.est d.shift.new.lct

moved-as : (d : After-shift) → let x = d.unwrap-words.result.now in after d ≡ moved (win d.loop-i.est d.loop-i.lct) (job_of x) (side x) (bound (side x) (time_of x))
moved-as d = rw d.from-side.ensures at d.shift.ensures.0

-- ---- the goals

pub code_of-requires : goal.code_of-requires
code_of-requires c = c.loop-i.invariant.good

pub returns-in_err-map_err : goal.returns-in_err-map_err
returns-in_err-map_err c =
    let p = err_from_is_err_and c.from_residual.result c.from_residual.ensures.1 in
    let bad = c.in_err-map_err.field-0.0 in
    let q = coded_bad c.loop-i.i-counter bad c.code_of.result _ c.in_err-map_err.ensures.variant (λ e h. MatchResult-at_err _ _ e h c.in_err-map_err.ensures.cases) (λ e r. search rules) in
    rw (p.1, p.2, q.0)
    (going_bad c.loop-i.invariant c.unwrap-words.result.now (shown (goal.at.returns-in_err-map_err c).After-unwrap-words) c.loop-i-test.true (code_number bad.code) (some_code bad.code)
    (sym q.1 ∙ c.code_of.ensures))

pub unwrap-words-requires : goal.unwrap-words-requires
unwrap-words-requires c = c.as_array.ensures.variant.1 (shown-length (goal.at.unwrap-words-requires c).After-show_record)

pub shift-requires : goal.shift-requires
shift-requires c =
    let f = listed (goal.at.shift-requires c).In_ok-map_err in
    let g = c.loop-i.invariant.good in
    (omega (arith, f.job, durations_sized g), omega (arith, f.job, durations_sized g, ends_sized g), f.time)

pub closed-requires : goal.closed-requires
closed-requires c =
    let f = listed (goal.at.closed-requires c).In_ok-map_err in
    let g = c.loop-i.invariant.good in
    (omega (arith, f.job, durations_sized g, c.shift.auto.est), omega (arith, f.job, durations_sized g, ends_sized g, c.shift.auto.lct), f.job)

pub returns-then-next-count : goal.returns-then-next-count
returns-then-next-count c =
    going_more c.loop-i.invariant c.unwrap-words.result.now (shown (goal.at.returns-then-next-count c).After-unwrap-words) c.loop-i-test.true (taken (goal.at.returns-then-next-count c).In_ok-map_err) (after (goal.at.returns-then-next-count c).After-shift) (moved-as (goal.at.returns-then-next-count c).After-shift)
    (sym c.closed.ensures ∙ c.if-closed.true) c.if-next-count.true

pub returns-else-next-count : goal.returns-else-next-count
returns-else-next-count c =
    going_last c.loop-i.invariant c.unwrap-words.result.now (shown (goal.at.returns-else-next-count c).After-unwrap-words) c.loop-i-test.true (taken (goal.at.returns-else-next-count c).In_ok-map_err) (after (goal.at.returns-else-next-count c).After-shift) (moved-as (goal.at.returns-else-next-count c).After-shift)
    (sym c.closed.ensures ∙ c.if-closed.true) c.if-next-count.false

pub loop-i-preserved : goal.loop-i-preserved
loop-i-preserved c =
    going_on c.loop-i.invariant c.unwrap-words.result.now (shown (goal.at.loop-i-preserved c).After-unwrap-words) c.loop-i-test.true (taken (goal.at.loop-i-preserved c).In_ok-map_err) (after (goal.at.loop-i-preserved c).After-shift) (moved-as (goal.at.loop-i-preserved c).After-shift)
    (sym c.closed.ensures ∙ c.if-closed.false)

pub returns : goal.returns
returns c = going_end c.loop-i.invariant c.loop-i-test.false
