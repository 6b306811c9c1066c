-- `jobcalls::conflict` meets its contract: the lists lent to the desk's call are the first five of the words, what it says is told, and its set is given.
use mathlib.Core.Path.{sym}
use Rattle.jobcalls.proofs.conflict.Goals as goal

pub returns : goal.returns
returns c = (
  _,
  c.marking-says.ensures,
  rw
      (sym c.list-est.ensures, sym c.list-lct.ensures, sym c.list-dur.ensures, sym c.list-dem.ensures, sym c.list-log.ensures)
      c.conflict-given.ensures,
)
