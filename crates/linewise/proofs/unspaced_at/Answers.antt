-- `linewise::unspaced_at` meets its contract: the first byte that is no space is found.
use mathlib.Core.Bool.{not}
use lib.Dec.{eqb}
use Rattle.std.proofs.Common.{rules, tests}
use Rattle.linewise.proofs.Places.{unspaced_to}
use Rattle.linewise.proofs.unspaced_at.Goals as goal

pub returns : goal.returns
returns c = unspaced_to c.args.text.now c.args.at c.first_where.result (c.first_where.ensures.first (λ b. not (eqb b 32)) (λ b r k p. search (rules, tests)))
