-- `walking::advance` meets its contract: a successor where one is left, the end behind the last row, else the head of the next row.
use native.Mathlib.Omega.{arith}
use Rattle.std.proofs.lemmas.Result.{err_from_is_err_and}
use Rattle.walking.proofs.Steps.{step_successor, step_refused, step_done, step_headless, step_begun}
use Rattle.walking.proofs.advance.Goals as goal

pub returns-in_err-successor : goal.returns-in_err-successor
returns-in_err-successor c =
    let p = err_from_is_err_and c.from_residual.result c.from_residual.ensures.1 in
    rw (p.1, p.2) (step_refused _ _ _ _ _ c.requires.0 _ (omega (arith, c.if-w-gt0.true)) c.in_err-successor.ensures)

pub returns-in_ok-successor : goal.returns-in_ok-successor
returns-in_ok-successor c = step_successor _ _ _ _ _ c.requires.0 _ _ (omega (arith, c.if-w-gt0.true)) c.in_ok-successor.ensures

pub returns-then-w-n : goal.returns-then-w-n
returns-then-w-n c = step_done _ _ _ _ _ c.requires.0 (omega (arith, c.if-w-gt0.false)) c.if-w-n.true

pub returns-in_err-head : goal.returns-in_err-head
returns-in_err-head c =
    let p = err_from_is_err_and c.from_residual-in_err-head.result c.from_residual-in_err-head.ensures.1 in
    rw (p.1, p.2) (step_headless _ _ _ _ _ c.requires.0 (omega (arith, c.if-w-gt0.false)) _ c.if-w-n.false c.in_err-head.ensures)

pub returns-in_ok-head : goal.returns-in_ok-head
returns-in_ok-head c =
    let q = c.in_ok-head.ensures in
    step_begun _ _ _ _ _ c.requires.0 (omega (arith, c.if-w-gt0.false)) _ _ _ _ q.0 c.requires.1 c.if-w-n.false q.1 q.2 q.3 q.4
