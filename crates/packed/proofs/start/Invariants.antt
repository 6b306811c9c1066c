-- `packed::start` meets its contract. Invariant: the place is where the list of the turn begins.
use mathlib.Core.Path.{◌≡◌}
use Rattle.packed.specs.Packed.{start_of}
use Rattle.packed.proofs.start.Given as goal

abbrev pub invariant-loop : goal.invariant-loop
invariant-loop l = l.at ≡ start_of l.words l.counter
