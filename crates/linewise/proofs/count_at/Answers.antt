-- `linewise::count_at` meets its contract: the part that ends with the line is read from behind its first colon on.
use lib.ListN.{take, drop}
use Rattle.texts.specs.Tokens.{tokens}
use Rattle.std.proofs.lemmas.Result.{err_from_is_err_and}
use Rattle.linewise.proofs.Counts.{counted_part}
use Rattle.linewise.proofs.count_at.Goals as goal

pub returns-in_err-got : goal.returns-in_err-got
returns-in_err-got c =
    let p = err_from_is_err_and c.from_residual.result c.from_residual.ensures.1 in
    let q = c.in_err-got.ensures in
    rw (p.1, p.2, counted_part _ _ _ _ _ c.line_end-end.ensures c.behind-from.ensures, q)

pub returns : goal.returns
returns c =
    let q = c.in_ok-got.ensures in
    (tokens (drop c.in_ok-got.got.to (take c.line_end-end.result c.args.text.now)), rw (counted_part _ _ _ _ _ c.line_end-end.ensures c.behind-from.ensures, q))
