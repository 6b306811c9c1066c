-- `projectcalls::write` meets its contract: the lists lent to the desk's call are the first four of the words, and what it says is told.
use mathlib.Core.Path.{sym}
use Rattle.projectcalls.proofs.write.Goals as goal

pub returns : goal.returns
returns c = (
  _,
  c.writing.ensures,
  rw (sym c.list-dur.ensures, sym c.list-dem.ensures, sym c.list-jobs.ensures, sym c.list-successors.ensures) c.write_patterson.ensures,
)
