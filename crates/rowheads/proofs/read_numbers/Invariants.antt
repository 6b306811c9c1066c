-- `rowheads::read_numbers` meets its contract: i of the m numbers are read, and `picked` is the one at `res` among them.
use lib.ListN.{drop}
use Rattle.texts.specs.Tokens.{tokens}
use Rattle.rowheads.proofs.Numbers.{Picking}
use Rattle.rowheads.proofs.read_numbers.Given as goal

abbrev pub invariant-loop-i : goal.invariant-loop-i
invariant-loop-i l = Picking l.top l.m l.res (tokens (drop l.at l.text)) l.text l.picked l.to l.i
