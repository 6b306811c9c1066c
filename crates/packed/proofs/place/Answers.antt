-- `packed::place` meets its contract.
use mathlib.Core.Path.{sym}
use native.Mathlib.Omega.{arith}
use Rattle.packed.specs.Packed.{start_of}
use Rattle.packed.proofs.place.Goals as goal

pub returns-clause-first : goal.returns-clause-first
unfolding start_of
returns-clause-first c = omega (arith, c.min.ensures, c.behind-end.ensures, c.start-at.ensures.value)

pub returns-clause-end : goal.returns-clause-end
unfolding start_of
returns-clause-end c = rw (sym c.start-at.ensures.value) c.behind-end.ensures
