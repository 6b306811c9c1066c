-- `lent::write_pairs` meets its contract: as many pairs are written as were counted, in text order, and the others still come; so there is room for each
-- that comes.
use Rattle.std.specs.Iterator.Adapters.{enumerate_source, enumerate_count}
use Rattle.precedence.specs.Pairs.{coming}
use Rattle.lent.proofs.Filling.{Writing}
use Rattle.lent.proofs.write_pairs.Given as goal

abbrev pub invariant-loop-i : goal.invariant-loop-i
invariant-loop-i l =
    goal.iterator-loop-i.can_next l.i-iterator × goal.iterator-loop-i.is_finite l.i-iterator
    × Writing (coming l.fn.pairs) (coming (enumerate_source l.i-iterator)) l.initial.js l.initial.ss l.js l.ss (enumerate_count l.i-iterator)
