-- `tracer::check_copies` meets its contract: the checker sees the fronts of the copies, which are the submitted windows.
use mathlib.Core.Path.{◌≡◌, refl, sym, ap, ◌∙◌}
use lib.ListN.{length, take}
use Rattle.windows.proofs.Copies.{saved_back}
use Rattle.timetable.proofs.Good.{ends_sized}
use Rattle.checks.specs.Replay.{Checked}
use Rattle.tracer.proofs.check_copies.Goals as goal
use Rattle.tracer.proofs.check_copies.Goals.{After-save-2}

same : (d : After-save-2) → length d.args.est.now ≡ length d.args.lct.now
same d = sym (ends_sized d.requires)

starts-front : (d : After-save-2) → take (length d.args.est.now) d.save.new.to ≡ d.args.est.now
starts-front d = saved_back d.args.est.now _ d.save.new.to _ d.save.ensures refl

ends-front : (d : After-save-2) → take (length d.args.est.now) d.save-2.new.to ≡ d.args.lct.now
ends-front d = saved_back d.args.lct.now _ d.save-2.new.to _ d.save-2.ensures (same d)

pub slice_bounds-check_log-end : goal.slice_bounds-check_log-end
slice_bounds-check_log-end c = ap length (sym (starts-front (goal.at.slice_bounds-check_log-end c).After-save-2))

pub slice_bounds-check_log-end-2 : goal.slice_bounds-check_log-end-2
slice_bounds-check_log-end-2 c = same (goal.at.slice_bounds-check_log-end-2 c).After-save-2 ∙ ap length (sym (ends-front (goal.at.slice_bounds-check_log-end-2 c).After-save-2))

pub returns : goal.returns
returns c =
    ap (λ (y : Checked). y.says) c.check_log.ensures.answered ∙ rw (starts-front (goal.at.returns c).After-save-2, ends-front (goal.at.returns c).After-save-2)
