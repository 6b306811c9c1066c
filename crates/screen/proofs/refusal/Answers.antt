-- `screen::refusal` meets its contract: the demands' length, then the three lists, then the demands and the capacity.
use mathlib.Core.Path.{sym, ap, ◌∙◌}
use Rattle.std.proofs.lemmas.Result.{err_from_is_err_and}
use Rattle.narrowing.specs.Windows.{win}
use Rattle.answers.specs.Said.{refusal_number}
use Rattle.screen.proofs.Tests.{failed, passed, exit_number, last_number, number_not_0, stays, by_three}
use Rattle.screen.proofs.refusal.Goals as goal

pub returns-in_err-sized : goal.returns-in_err-sized
returns-in_err-sized c =
    let p = err_from_is_err_and _ c.from_residual.ensures.1 in
    exit_number _ _ _ _ _ p.1 p.2 c.in_err-sized.ensures ∙ rw (by_three (win c.args.est.now c.args.lct.now) c.args.dur.now c.args.dem.now c.args.cap, failed _ _ _ c.in_err-sized.ensures)

pub returns-in_err-refusal_of_three : goal.returns-in_err-refusal_of_three
returns-in_err-refusal_of_three c =
    let p = err_from_is_err_and c.from_residual-in_err-refusal_of_three.result c.from_residual-in_err-refusal_of_three.ensures.1 in
    rw (p.1, p.2, by_three (win c.args.est.now c.args.lct.now) c.args.dur.now c.args.dem.now c.args.cap, passed _ _ _ c.in_ok-sized.ensures, ← c.in_err-refusal_of_three.ensures) (sym (stays _ _ (number_not_0 _)))

pub returns : goal.returns
returns c =
    ap refusal_number c.supplied.ensures ∙ last_number _ _
    ∙ rw (by_three (win c.args.est.now c.args.lct.now) c.args.dur.now c.args.dem.now c.args.cap, passed _ _ _ c.in_ok-sized.ensures, ← c.in_ok-refusal_of_three.ensures)
