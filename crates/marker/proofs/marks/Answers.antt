-- `marker::marks` meets its contract: the walk's set and its number of ones.
use Prim.Native.Nat.{ℕ}
use mathlib.Core.Path.{ap, ◌∙◌}
use mathlib.Core.List.{List, [], ◌∷◌}
use Rattle.answers.specs.Said.{Word, said}
use Rattle.members.specs.Members.{ones_of}
use Rattle.conflicts.specs.Table.{blame, marking}
use Rattle.marker.proofs.marks.Goals as goal

pub returns : goal.returns
unfolding marking
returns c =
    ap (λ (n : ℕ). blame (said Word.marked (n ∷ [])) c.walk_back-set.result) c.count.ensures
    ∙ ap (λ (s : List ℕ). blame (said Word.marked (ones_of s ∷ [])) s) c.walk_back-set.ensures
