-- `logs::clear` meets its contract: it is the definition.
use Rattle.journal.specs.Journal.{cleared}
use Rattle.logs.proofs.clear.Goals as goal

pub returns : goal.returns
unfolding cleared
returns c = c.fill.ensures.after (λ y h. h)
