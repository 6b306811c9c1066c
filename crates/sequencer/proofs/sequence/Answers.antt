-- `sequencer::sequence` meets its contract: a refusal by its number, a clash where a window is too short, else the work on copies, which are the caller's
-- windows at the front of two arrays. Settled windows come back from there; the caller's are else untouched.
use native.Mathlib.Omega.{arith}
use mathlib.Core.Path.{◌≡◌, refl, sym, ap, ◌∙◌}
use lib.ListN.{length, take, drop}
use lib.Seq.{take_at}
use Rattle.narrowing.specs.Windows.{win, Long}
use Rattle.answers.specs.declared.Answer.{Answer}
use Rattle.answers.specs.Said.{says}
use Rattle.heads.specs.Promise.{GoodHead, left, Sequences}
use Rattle.screen.proofs.Tests.{number_not_0}
use Rattle.windows.proofs.Copies.{saved_back}
use Rattle.windows.proofs.TooShort.{answer_too_short, answer_long}
use Rattle.sequencer.proofs.Answered.{win_by, unsettled, accepted, refused, clashed, worked}
use Rattle.sequencer.proofs.sequence.Goals as goal
use Rattle.sequencer.proofs.sequence.Goals.{After-save-2, After-work-end, In_default, In_default-lowest_too_short}

-- ---- what the tests have shown

good : (d : In_default) → GoodHead (win d.args.est.now d.args.lct.now) d.args.dur.now
good d = accepted _ _ d.in_default.ensures

allLong : (d : In_default-lowest_too_short) → Long (length d.args.est.now) d.args.dur.now (win d.args.est.now d.args.lct.now)
allLong d = answer_long _ _ _ d.in_default-lowest_too_short.ensures

same : (d : In_default) → length d.args.est.now ≡ length d.args.lct.now
same d = sym (good d).sized.1.0

-- ---- once both lists are saved: the fronts of the copies

starts-front : (d : After-save-2) → take (length d.args.est.now) d.save.new.to ≡ d.args.est.now
starts-front d = saved_back d.args.est.now _ d.save.new.to _ d.save.ensures refl

ends-front : (d : After-save-2) → length d.args.est.now ≡ length d.args.lct.now → take (length d.args.est.now) d.save-2.new.to ≡ d.args.lct.now
ends-front d h = saved_back d.args.lct.now _ d.save-2.new.to _ d.save-2.ensures h

-- ---- after the work: the lengths of what it made of the fronts, and the promise for each answer

starts-length : (d : After-work-end) → take (length d.args.est.now) d.save.new.to ≡ d.args.est.now → length d.work-end.new.est ≡ length d.args.est.now
starts-length d h = d.work-end.auto.est ∙ ap length h

ends-length : (d : After-work-end) → take (length d.args.est.now) d.save-2.new.to ≡ d.args.lct.now → length d.work-end.new.lct ≡ length d.args.lct.now
ends-length d h = d.work-end.auto.lct ∙ ap length h

done : (d : After-work-end) → GoodHead (win d.args.est.now d.args.lct.now) d.args.dur.now
    → take (length d.args.est.now) d.save.new.to ≡ d.args.est.now → take (length d.args.est.now) d.save-2.new.to ≡ d.args.lct.now
    → (a : Answer) → d.work-end.result ≡ a
    → let W = win d.args.est.now d.args.lct.now in Sequences W d.args.dur.now (left (says a) (win_by W a (win d.work-end.new.est d.work-end.new.lct)))
done d g h k a e = worked (win d.args.est.now d.args.lct.now) d.args.dur.now g a _ _ _ h k (rw e at d.work-end.ensures)

-- ---- the goals; those that the search closes have no answer

pub returns-in-Err : goal.returns-in-Err
returns-in-Err c = rw c.from.ensures (refused _ _ _ c.in-Err.ensures (number_not_0 _))

pub lowest_too_short-requires : goal.lowest_too_short-requires
lowest_too_short-requires c = let g = good (goal.at.lowest_too_short-requires c).In_default in (g.sized.1.0, g.sized.1.1.0)

pub returns-in-Some : goal.returns-in-Some
returns-in-Some c = clashed _ _ (good (goal.at.returns-in-Some c).In_default) _ (answer_too_short _ _ _ _ c.in-Some.ensures)

pub save-requires : goal.save-requires
save-requires c = (good (goal.at.save-requires c).In_default).few

pub save-requires-2 : goal.save-requires-2
save-requires-2 c = let d = (goal.at.save-requires-2 c).In_default in omega (arith, (good d).few, same d)

pub work-end-requires : goal.work-end-requires
work-end-requires c =
    let p = goal.at.work-end-requires c in
    rw (starts-front p.After-save-2, ends-front p.After-save-2 (same p.In_default)) (good p.In_default, allLong p.In_default-lowest_too_short)

pub returns-in-Settled : goal.returns-in-Settled
returns-in-Settled c =
    let p = goal.at.returns-in-Settled c in
    let n = length c.args.est.now in
    let f = starts-front p.After-save-2 in
    let g = ends-front p.After-save-2 (same p.In_default) in
    let e = c.restore.ensures ∙ take_at c.work-end.new.est (drop n c.save.new.to) n (starts-length p.After-work-end f) in
    let l = c.restore-in-Settled.ensures ∙ take_at c.work-end.new.lct (drop n c.save-2.new.to) (length c.args.lct.now) (ends-length p.After-work-end g) in
    rw (e, l, c.in-Settled.is) (done p.After-work-end (good p.In_default) f g _ c.in-Settled.is)

pub returns-in_default-end : goal.returns-in_default-end
returns-in_default-end c =
    let p = goal.at.returns-in_default-end c in
    let h = done p.After-work-end (good p.In_default) (starts-front p.After-save-2) (ends-front p.After-save-2 (same p.In_default)) _ refl in
    rw (unsettled (win c.args.est.now c.args.lct.now) c.work-end.result (win c.work-end.new.est c.work-end.new.lct) c.in_default-end.not-Settled) at h
