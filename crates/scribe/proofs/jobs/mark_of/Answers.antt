-- `scribe::jobs::mark_of` decides the byte behind a number by whether a place is left.
use native.Mathlib.Omega.{arith}
use borrow.Author.Tests.{lt-ltb, le-ltb}
use Rattle.scribe.proofs.jobs.mark_of.Goals as goal

pub returns-then-i-to : goal.returns-then-i-to
returns-then-i-to c = record { byte = rw (lt-ltb _ _ c.if-i-to.true) (omega arith) }

pub returns-else-i-to : goal.returns-else-i-to
returns-else-i-to c = record { byte = rw (le-ltb _ _ c.if-i-to.false) (omega arith) }
