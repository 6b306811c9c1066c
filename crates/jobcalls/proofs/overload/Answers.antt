-- `jobcalls::overload` meets its contract: the lists lent to the desk's call are the first three of the words, and what it says is told.
use mathlib.Core.Path.{sym}
use Rattle.jobcalls.proofs.overload.Goals as goal

pub returns : goal.returns
returns c = (_, c.overloading.ensures, rw (sym c.list-est.ensures, sym c.list-lct.ensures, sym c.list-dur.ensures) c.overload.ensures)
