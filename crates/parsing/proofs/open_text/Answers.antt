-- `parsing::open_text` meets its contract: its three readings, one after the other. A refusal of one is the refusal.
use mathlib.Core.Path.{refl}
use Rattle.std.proofs.lemmas.Result.{err_from_is_err_and}
use Rattle.texts.proofs.Readings.{one_takes, numbers_takes}
use Rattle.projects.specs.Patterson.{opening}
use Rattle.parsing.proofs.Whole.{opening_good}
use Rattle.parsing.proofs.open_text.Goals as goal

pub returns-in_err-jobs : goal.returns-in_err-jobs
unfolding opening
returns-in_err-jobs c =
    let p = err_from_is_err_and c.from_residual.result c.from_residual.ensures.1 in
    let n = c.in_err-jobs.ensures in
    rw (p.1, p.2, n)

pub returns-in_err-resources : goal.returns-in_err-resources
unfolding opening
returns-in_err-resources c =
    let p = err_from_is_err_and c.from_residual-in_err-resources.result c.from_residual-in_err-resources.ensures.1 in
    let n = c.in_ok-jobs.ensures in
    let k = c.in_err-resources.ensures in
    rw (p.1, p.2, n, k)

pub returns-in_err-capacity : goal.returns-in_err-capacity
unfolding opening
returns-in_err-capacity c =
    let p = err_from_is_err_and c.from_residual-in_err-capacity.result c.from_residual-in_err-capacity.ensures.1 in
    let n = c.in_ok-jobs.ensures in
    let k = c.in_ok-resources.ensures in
    let q = c.in_err-capacity.ensures in
    rw (p.1, p.2, n, k, q)

pub returns : goal.returns
returns c =
    let n = c.in_ok-jobs.ensures in
    let k = c.in_ok-resources.ensures in
    let q = c.in_ok-capacity.ensures in
    (_, opening_good _ _ _ n _ _ k _ _ q.1, refl, refl, q.2, (one_takes _ _ _ _ _ n).1, (numbers_takes _ _ _ _ _ q.1).0)
