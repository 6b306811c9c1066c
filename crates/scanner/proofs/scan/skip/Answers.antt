-- `scanner::scan::skip` meets its contract: the first byte that is no blank is found.
use mathlib.Core.Bool.{not}
use Rattle.std.proofs.Common.{rules}
use Rattle.texts.specs.Tokens.{blank}
use Rattle.scanner.proofs.First.{skipped}
use Rattle.scanner.proofs.scan.skip.Goals as goal

pub returns : goal.returns
returns c = skipped _ _ _ (c.first_where.ensures.first (λ b. not (blank b)) (λ b r k p. search rules))
