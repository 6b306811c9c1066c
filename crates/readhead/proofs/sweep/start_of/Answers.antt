-- `readhead::sweep::start_of` meets its contract.
use native.Mathlib.Omega.{arith}
use Rattle.readhead.proofs.sweep.start_of.Goals as goal

pub offset_bounds-est-starts : goal.offset_bounds-est-starts
offset_bounds-est-starts c = rw c.descend-leaf.ensures (omega (arith, c.requires.job))

pub bounds-est-starts : goal.bounds-est-starts
bounds-est-starts c = rw c.descend-leaf.ensures c.requires.job
