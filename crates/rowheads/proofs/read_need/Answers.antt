-- `rowheads::read_need` meets its contract: two readings, one after the other. A refusal of either is the refusal.
use mathlib.Core.Path.{refl}
use Rattle.std.proofs.lemmas.Result.{err_from_is_err_and}
use Rattle.rowheads.specs.Heads.{need_head}
use Rattle.rowheads.proofs.Numbers.{need_read}
use Rattle.rowheads.proofs.read_need.Goals as goal

pub returns-in_err-duration : goal.returns-in_err-duration
unfolding need_head
returns-in_err-duration c =
    let p = err_from_is_err_and c.from_residual.result c.from_residual.ensures.1 in
    let d = c.in_err-duration.ensures in
    rw (p.1, p.2, d)

pub returns-in_err-demand : goal.returns-in_err-demand
unfolding need_head
returns-in_err-demand c =
    let p = err_from_is_err_and c.from_residual-in_err-demand.result c.from_residual-in_err-demand.ensures.1 in
    let d = c.in_ok-duration.ensures in
    let q = c.in_err-demand.ensures in
    rw (p.1, p.2, d, q)

pub returns : goal.returns
returns c =
    let q = c.in_ok-demand.ensures in
    (_, need_read _ _ _ _ _ _ c.in_ok-duration.ensures q.1, refl, q.2, refl)
