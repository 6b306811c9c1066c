-- The numbers of a list at the places of a set, in their order; and how many such places there are before a place, which is where its number then stands.
use Rattle.std.specs.Prelude.{ℕ, suc, Bool, true, false, List, [], ◌∷◌}
use Rattle.lists.specs.Tests.{only}
use Rattle.lists.specs.Sums.{total}
use Rattle.lists.specs.Sets.{Set}

-- x before the others where the test passes
abbrev pub keep : Bool → ℕ → List ℕ → List ℕ
keep true x xs = x ∷ xs
keep false x xs = xs

-- the numbers of a list at the places of M, in their order
unfoldable pub picked : Set → List ℕ → List ℕ
picked M [] = []
picked M (x ∷ xs) = keep (M 0) x (picked (λ k. M (suc k)) xs)

-- how many places of M there are before k: the place of k among them
unfoldable pub picked_place : Set → ℕ → ℕ
unfolding total
picked_place M k = total (λ i. only (M i) 1) k
