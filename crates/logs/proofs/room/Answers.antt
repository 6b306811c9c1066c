-- `logs::room` meets its contract: it is the definition.
use mathlib.Core.Path.{refl}
use Rattle.journal.specs.Journal.{room_of}
use Rattle.logs.proofs.room.Goals as goal

pub returns : goal.returns
unfolding room_of
returns c = refl
