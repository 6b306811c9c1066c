-- `readhead::overload` meets its contract: an error is a refusal's row, and else the list is good.
use mathlib.Core.Path.{sym}
use Rattle.std.proofs.lemmas.Result.{err_from_is_err_and}
use Rattle.joblist.proofs.Refusals.{good}
use Rattle.overloads.proofs.Rows.{refused_meets, found_meets}
use Rattle.screen.proofs.Tests.{number_not_0}
use Rattle.readhead.proofs.overload.Goals as goal

pub returns-in_err-refusal_of_three : goal.returns-in_err-refusal_of_three
returns-in_err-refusal_of_three c =
    let p = err_from_is_err_and c.from_residual.result c.from_residual.ensures.1 in
    rw (p.1, p.2) (refused_meets _ _ _ c.in_err-refusal_of_three.ensures (number_not_0 _))

pub find-requires : goal.find-requires
find-requires c = good _ _ _ (sym c.in_ok-refusal_of_three.ensures)

pub returns : goal.returns
returns c = rw c.find.ensures (found_meets _ _ (good _ _ _ (sym c.in_ok-refusal_of_three.ensures)))
