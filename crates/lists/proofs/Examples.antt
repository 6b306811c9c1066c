-- Spare members computed: of all the numbers of a list, with what counts beside them and the limit, which stay once the spare ones are dropped. And
-- the numbers of a list at some places.
use mathlib.Core.Path.{◌≡◌, refl}
use mathlib.Core.Bool.{Bool, true, false}
use mathlib.Core.List.{List, [], ◌∷◌, map}
use Prim.Native.Nat.{ℕ}
use lib.Dec.{eqb, ltb}
use lib.ListN.{length}
use Rattle.lists.specs.Spares.{leaned}
use Rattle.lists.specs.Tests.{either}
use Rattle.lists.specs.Picked.{picked, picked_place}

-- of the numbers 0, 1 and 2
abbrev stay : List ℕ → ℕ → ℕ → List Bool
stay r own limit = map (leaned (length r) r own limit (λ k. true)) (0 ∷ 1 ∷ 2 ∷ [])

-- only number 1 is needed, and number 2 counts for nothing; against the first total none would stay
pub one_of_two : (stay (2 ∷ 1 ∷ 0 ∷ []) 1 1 ≡ false ∷ true ∷ false ∷ []) × (stay (1 ∷ 2 ∷ 0 ∷ []) 1 1 ≡ false ∷ true ∷ false ∷ [])
unfolding leaned
one_of_two = (refl, refl)

-- without either of the last two the limit is only reached; from the highest number down the first two would stay
pub two_of_three : stay (1 ∷ 2 ∷ 2 ∷ []) 3 5 ≡ false ∷ true ∷ true ∷ []
unfolding leaned
two_of_three = refl

-- what counts beside them exceeds the limit: none is needed; none is spare
pub none_of_three : stay (1 ∷ 2 ∷ 2 ∷ []) 6 5 ≡ false ∷ false ∷ false ∷ []
unfolding leaned
none_of_three = refl

pub all_of_three : stay (1 ∷ 2 ∷ 2 ∷ []) 1 5 ≡ true ∷ true ∷ true ∷ []
unfolding leaned
all_of_three = refl

-- the first, the third and the last of five
abbrev three : ℕ → Bool
three k = either (eqb k 0) (either (eqb k 2) (eqb k 4))

pub three_of_five : (picked three (7 ∷ 5 ∷ 2 ∷ 3 ∷ 9 ∷ []) ≡ 7 ∷ 2 ∷ 9 ∷ [])
    × (map (picked_place three) (0 ∷ 1 ∷ 2 ∷ 3 ∷ 4 ∷ 5 ∷ []) ≡ 0 ∷ 1 ∷ 1 ∷ 2 ∷ 2 ∷ 3 ∷ [])
unfolding picked picked_place
three_of_five = (refl, refl)

-- places beyond the list's end give nothing; where there is no place nothing is left
pub beyond_the_end : (picked (ltb 1) (7 ∷ 5 ∷ 8 ∷ []) ≡ 8 ∷ []) × (picked (λ k. false) (7 ∷ 5 ∷ 8 ∷ []) ≡ [])
unfolding picked
beyond_the_end = (refl, refl)
