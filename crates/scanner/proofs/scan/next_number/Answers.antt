-- `scanner::scan::next_number` meets its contract: blanks, and then a token or the end.
use mathlib.Core.Path.{◌∙◌}
use Rattle.scanner.proofs.Tokens.{token_next, tokens_none}
use Rattle.scanner.proofs.scan.next_number.Goals as goal

pub returns-then-i-text : goal.returns-then-i-text
returns-then-i-text c = token_next _ _ _ c.token_at.result c.skip-i.ensures c.if-i-text.true c.token_at.ensures

pub returns-else-i-text : goal.returns-else-i-text
returns-else-i-text c = c.skip-i.ensures.same ∙ tokens_none _ _ c.if-i-text.false
