-- `screen::refusal_of_three` meets its contract: the earliest starts are as long as themselves, so two comparisons are test 1.
use mathlib.Core.Path.{ap, ◌∙◌}
use Rattle.std.proofs.lemmas.Result.{err_from_is_err_and}
use Rattle.narrowing.specs.Windows.{win}
use Rattle.answers.specs.Said.{refusal_number}
use Rattle.screen.proofs.Tests.{failed, passed, exit_number, last_number, of_three}
use Rattle.screen.proofs.refusal_of_three.Goals as goal

pub returns-in_err-sized : goal.returns-in_err-sized
returns-in_err-sized c =
    let p = err_from_is_err_and _ c.from_residual.ensures.1 in
    exit_number _ _ _ _ _ p.1 p.2 c.in_err-sized.ensures ∙ rw (of_three (win c.args.est.now c.args.lct.now) c.args.dur.now, failed _ _ _ c.in_err-sized.ensures)

pub returns-in_err-sized-2 : goal.returns-in_err-sized-2
returns-in_err-sized-2 c =
    let p = err_from_is_err_and _ c.from_residual-in_err-sized-2.ensures.1 in
    exit_number _ _ _ _ _ p.1 p.2 c.in_err-sized-2.ensures ∙ rw (of_three (win c.args.est.now c.args.lct.now) c.args.dur.now, passed _ _ _ c.in_ok-sized.ensures, failed _ _ _ c.in_err-sized-2.ensures)

pub returns-in_err-few : goal.returns-in_err-few
returns-in_err-few c =
    let p = err_from_is_err_and _ c.from_residual-in_err-few.ensures.1 in
    exit_number _ _ _ _ _ p.1 p.2 c.in_err-few.ensures ∙ rw (of_three (win c.args.est.now c.args.lct.now) c.args.dur.now, passed _ _ _ c.in_ok-sized.ensures, passed _ _ _ c.in_ok-sized-2.ensures, failed _ _ _ c.in_err-few.ensures)

pub returns-in_err-within : goal.returns-in_err-within
returns-in_err-within c =
    let p = err_from_is_err_and _ c.from_residual-in_err-within.ensures.1 in
    exit_number _ _ _ _ _ p.1 p.2 c.in_err-within.ensures ∙ rw (of_three (win c.args.est.now c.args.lct.now) c.args.dur.now, passed _ _ _ c.in_ok-sized.ensures, passed _ _ _ c.in_ok-sized-2.ensures, passed _ _ _ c.in_ok-few.ensures, failed _ _ _ c.in_err-within.ensures)

pub returns-in_err-within-2 : goal.returns-in_err-within-2
returns-in_err-within-2 c =
    let p = err_from_is_err_and _ c.from_residual-in_err-within-2.ensures.1 in
    exit_number _ _ _ _ _ p.1 p.2 c.in_err-within-2.ensures ∙ rw (of_three (win c.args.est.now c.args.lct.now) c.args.dur.now, passed _ _ _ c.in_ok-sized.ensures, passed _ _ _ c.in_ok-sized-2.ensures, passed _ _ _ c.in_ok-few.ensures, passed _ _ _ c.in_ok-within.ensures, failed _ _ _ c.in_err-within-2.ensures)

pub returns : goal.returns
returns c = ap refusal_number c.within-3.ensures ∙ last_number _ _ ∙ rw (of_three (win c.args.est.now c.args.lct.now) c.args.dur.now, passed _ _ _ c.in_ok-sized.ensures, passed _ _ _ c.in_ok-sized-2.ensures, passed _ _ _ c.in_ok-few.ensures, passed _ _ _ c.in_ok-within.ensures, passed _ _ _ c.in_ok-within-2.ensures)
