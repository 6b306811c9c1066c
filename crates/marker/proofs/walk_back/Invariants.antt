-- `marker::walk_back` meets its contract. Before each record the set holds those whom the records from `k` on mark.
use mathlib.Core.Path.{◌≡◌}
use Rattle.members.specs.Members.{set_words, setOf}
use Rattle.marker.proofs.Back.{behind}
use Rattle.marker.proofs.walk_back.Given as goal

abbrev pub invariant-loop-k : goal.invariant-loop-k
invariant-loop-k l = l.set ≡ setOf set_words (behind l.log l.count l.job l.k)
