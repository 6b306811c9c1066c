-- `walking::validate` meets its contract: what the walk has passed stands in the arrays and is counted, and what is left is what the rest of the text says.
use lib.ListN.{length, drop}
use Rattle.texts.specs.Tokens.{tokens}
use Rattle.walking.proofs.Checking.{Checking}
use Rattle.walking.proofs.validate.Given as goal

abbrev pub invariant-loop-u : goal.invariant-loop-u
invariant-loop-u l = Checking l.n l.table l.res (tokens (drop l.at l.text)) l.text l.dur l.dem l.w l.pairs

abbrev pub decreases-loop-u : goal.decreases-loop-u
decreases-loop-u l = length (tokens (drop l.w.at l.text))
