-- `rowheads::read_link` meets its contract.
use Rattle.std.proofs.lemmas.Result.{err_from_is_err_and}
use Rattle.rowheads.proofs.Numbers.{link_good, link_zero, link_bad}
use Rattle.rowheads.proofs.read_link.Goals as goal

pub returns-in_err-got : goal.returns-in_err-got
returns-in_err-got c =
    let p = err_from_is_err_and c.from_residual.result c.from_residual.ensures.1 in
    rw (p.1, p.2) (link_bad _ _ _ c.in_err-got.ensures)

pub returns-then-got-eq0 : goal.returns-then-got-eq0
returns-then-got-eq0 c = link_zero _ _ _ _ c.in_ok-got.ensures c.if-got-eq0.true

pub returns : goal.returns
returns c = link_good _ _ _ _ c.in_ok-got.ensures c.if-got-eq0.false
