-- `bits::count` meets its contract. The loop's invariant: the ones counted so far, at most 32 a word, and those of the words that are left are all the ones.
use Prim.Native.Nat.{◌+◌, ◌*◌, ◌≤◌}
use mathlib.Core.Path.{◌≡◌}
use lib.ListN.{drop}
use Rattle.members.specs.Members.{ones_of}
use Rattle.bits.proofs.count.Given as goal

abbrev pub invariant-loop-word : goal.invariant-loop-word
invariant-loop-word l = (l.n ≤ 32 * l.word-index) × (l.n + ones_of (drop l.word-index l.set) ≡ ones_of l.set)
