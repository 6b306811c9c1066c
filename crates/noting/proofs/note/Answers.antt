-- `noting::note` meets its contract: the set gathered and the numbers given are the record of the move.
use mathlib.Core.Path.{◌∙◌}
use Rattle.timetable.specs.Search.{naming}
use Rattle.noting.proofs.note.Goals as goal

pub returns : goal.returns
unfolding naming
returns c = c.write.ensures ∙ rw (c.gather-set.ensures, c.from.ensures)
