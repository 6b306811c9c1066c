-- `precedence::TextPairs::next` meets its contract: heads of rows are passed over, the pairs still to come are the same, and the text stays.
use Rattle.precedence.specs.Pairs.{left}
use Rattle.precedence.proofs.Pairs.{Pulling}
use Rattle.precedence.proofs.text_pairs.TextPairsIterator.next.Given as goal

abbrev pub invariant-loop-v : goal.invariant-loop-v
invariant-loop-v l = Pulling l.initial.self l.self

abbrev pub decreases-loop-v : goal.decreases-loop-v
decreases-loop-v l = left l.self
