-- `logs::ragged` meets its contract: it is the definition.
use mathlib.Core.Path.{refl}
use Rattle.journal.specs.Journal.{is_whole}
use Rattle.logs.proofs.ragged.Goals as goal

pub returns : goal.returns
unfolding is_whole
returns c = refl
