-- Three lists, 7 8, none and 9, packed and worked out: each is found, there is no fourth, and what is put stays within its list.
use mathlib.Core.Path.{◌≡◌, refl}
use mathlib.Core.List.{List, [], ◌∷◌}
use Prim.Native.Nat.{ℕ}
use Rattle.packed.specs.Packed.{start_of, list_of, put_at}

abbrev three : List ℕ
three = 2 ∷ 7 ∷ 8 ∷ 0 ∷ 1 ∷ 9 ∷ []

found_in_three : (list_of three 0 ≡ 7 ∷ 8 ∷ []) × (list_of three 1 ≡ []) × (list_of three 2 ≡ 9 ∷ []) × (list_of three 3 ≡ [])
unfolding start_of
found_in_three = (refl, refl, refl, refl)

put_in_three : (put_at three 0 (5 ∷ []) ≡ 2 ∷ 5 ∷ 8 ∷ 0 ∷ 1 ∷ 9 ∷ []) × (put_at three 2 (5 ∷ 6 ∷ []) ≡ 2 ∷ 7 ∷ 8 ∷ 0 ∷ 1 ∷ 5 ∷ [])
unfolding start_of
put_in_three = (refl, refl)
