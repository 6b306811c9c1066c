-- `linewise::behind` meets its contract: the first byte b is found, and then the place behind it.
use lib.Dec.{eqb}
use Rattle.std.proofs.Common.{rules, tests}
use Rattle.linewise.proofs.Places.{behind_found, behind_missed}
use Rattle.linewise.proofs.behind.Goals as goal

pub returns-then-found-text : goal.returns-then-found-text
returns-then-found-text c =
    behind_found _ _ _ _ (c.first_where-found.ensures.first (λ a. eqb a c.args.b) (λ a r k p. search (rules, tests))) c.if-found-text.true

pub returns-else-found-text : goal.returns-else-found-text
returns-else-found-text c =
    behind_missed _ _ _ _ (c.first_where-found.ensures.first (λ a. eqb a c.args.b) (λ a r k p. search (rules, tests))) c.if-found-text.false
