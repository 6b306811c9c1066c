-- `linewise::line_end` meets its contract: the first line feed is found.
use lib.Dec.{eqb}
use Rattle.std.proofs.Common.{rules, tests}
use Rattle.linewise.proofs.Places.{line_to}
use Rattle.linewise.proofs.line_end.Goals as goal

pub returns : goal.returns
returns c =
    let w = c.first_where.ensures in
    line_to _ _ _ w.inside w.onward (w.first (λ b. eqb b 10) (λ b r k p. search (rules, tests)))
