-- `screen::refusal_of_two` meets its contract: each return is the first test that fails.
use mathlib.Core.Path.{ap, ◌∙◌}
use Rattle.std.proofs.lemmas.Result.{err_from_is_err_and}
use Rattle.answers.specs.Said.{refusal_number}
use Rattle.screen.proofs.Tests.{failed, passed, exit_number, last_number, of_two}
use Rattle.screen.proofs.refusal_of_two.Goals as goal

pub returns-in_err-sized : goal.returns-in_err-sized
returns-in_err-sized c =
    let p = err_from_is_err_and _ c.from_residual.ensures.1 in
    exit_number _ _ _ _ _ p.1 p.2 c.in_err-sized.ensures ∙ rw (of_two c.args.dur.now c.args.dem.now c.args.cap, failed _ _ _ c.in_err-sized.ensures)

pub returns-in_err-few : goal.returns-in_err-few
returns-in_err-few c =
    let p = err_from_is_err_and _ c.from_residual-in_err-few.ensures.1 in
    exit_number _ _ _ _ _ p.1 p.2 c.in_err-few.ensures ∙ rw (of_two c.args.dur.now c.args.dem.now c.args.cap, passed _ _ _ c.in_ok-sized.ensures, failed _ _ _ c.in_err-few.ensures)

pub returns-in_err-within : goal.returns-in_err-within
returns-in_err-within c =
    let p = err_from_is_err_and _ c.from_residual-in_err-within.ensures.1 in
    exit_number _ _ _ _ _ p.1 p.2 c.in_err-within.ensures ∙ rw (of_two c.args.dur.now c.args.dem.now c.args.cap, passed _ _ _ c.in_ok-sized.ensures, passed _ _ _ c.in_ok-few.ensures, failed _ _ _ c.in_err-within.ensures)

pub returns : goal.returns
returns c = ap refusal_number c.supplied.ensures ∙ last_number _ _ ∙ rw (of_two c.args.dur.now c.args.dem.now c.args.cap, passed _ _ _ c.in_ok-sized.ensures, passed _ _ _ c.in_ok-few.ensures, passed _ _ _ c.in_ok-within.ensures)
