-- `rowheads::read_numbered` meets its contract: two numbers that are those that they have to be.
use Rattle.std.proofs.lemmas.Result.{err_from_is_err_and}
use Rattle.rowheads.proofs.Numbers.{numbered_bad, numbered_next}
use Rattle.rowheads.proofs.read_numbered.Goals as goal

pub returns-in_err-number : goal.returns-in_err-number
returns-in_err-number c =
    let p = err_from_is_err_and c.from_residual.result c.from_residual.ensures.1 in
    rw (p.1, p.2) (numbered_bad _ _ _ c.in_err-number.ensures)

pub returns : goal.returns
returns c = rw (numbered_next _ _ _ _ c.in_ok-number.ensures) c.next_exactly-2.ensures
