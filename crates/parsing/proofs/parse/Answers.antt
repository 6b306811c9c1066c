-- `parsing::parse` meets its contract: the opening, the rows, and nothing behind them.
use mathlib.Core.Path.{sym, ◌∙◌}
use Rattle.std.proofs.lemmas.Result.{err_from_is_err_and}
use Rattle.parsing.proofs.Parsing.{parsed_closed, parsed_rows, parsed_over, parsed_whole}
use Rattle.parsing.proofs.parse.Goals as goal

pub returns-in_err-opened : goal.returns-in_err-opened
returns-in_err-opened c =
    let p = err_from_is_err_and c.from_residual.result c.from_residual.ensures.1 in
    rw (p.1, p.2) (parsed_closed _ 0 _ c.in_err-opened.ensures)

pub returns-in_err-dur : goal.returns-in_err-dur
returns-in_err-dur c =
    let p = err_from_is_err_and c.from_residual-in_err-dur.result c.from_residual-in_err-dur.ensures.1 in
    rw (p.1, p.2) (parsed_rows _ _ _ c.in_ok-opened.ensures _ c.in_err-dur.ensures)

pub returns-then-not-is_over : goal.returns-then-not-is_over
returns-then-not-is_over c = parsed_over _ _ _ c.in_ok-opened.ensures _ c.in_ok-dur.ensures (sym c.is_over.ensures ∙ c.if-not-is_over.true)

pub returns : goal.returns
returns c = parsed_whole _ _ _ c.in_ok-opened.ensures _ c.in_ok-dur.ensures (sym c.is_over.ensures ∙ c.if-not-is_over.false)
