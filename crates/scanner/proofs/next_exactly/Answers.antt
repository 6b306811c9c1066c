-- `scanner::next_exactly` meets its contract: a number up to v is v, or another one.
use Rattle.std.proofs.lemmas.Result.{err_from_is_err_and}
use Rattle.texts.proofs.Given.{exactly_same, exactly_less, exactly_bad}
use Rattle.scanner.proofs.next_exactly.Goals as goal

pub returns-in_err-got : goal.returns-in_err-got
returns-in_err-got c =
    let p = err_from_is_err_and c.from_residual.result c.from_residual.ensures.1 in
    rw (p.1, p.2) (exactly_bad _ _ _ c.in_err-got.ensures)

pub returns-then-got-v : goal.returns-then-got-v
returns-then-got-v c = exactly_same _ _ _ _ c.in_ok-got.ensures c.if-got-v.true

pub returns-else-got-v : goal.returns-else-got-v
returns-else-got-v c = exactly_less _ _ _ _ c.in_ok-got.ensures c.if-got-v.false
