-- Sets that are computed: 01's record of case 2 names the jobs 1 and 2; members on both sides of a word's end; two sets joined, of as many words and of
-- fewer; a set of thirty-two words.
use Prim.Native.Nat.{ℕ, ◌%◌}
use mathlib.Core.Path.{◌≡◌, refl}
use mathlib.Core.Bool.{Bool, true, false}
use mathlib.Core.List.{[], ◌∷◌}
use lib.Dec.{eqb}
use Rattle.lists.specs.Tests.{either}
use Rattle.members.specs.Members.{has, ones_of, setOf, inserted, joined}

-- either of two numbers
abbrev pub pair : ℕ → ℕ → ℕ → Bool
pair a b k = either (eqb k a) (eqb k b)

pub examples : (setOf 8 (pair 1 2) ≡ 6 ∷ 0 ∷ 0 ∷ 0 ∷ 0 ∷ 0 ∷ 0 ∷ 0 ∷ [])
    × (setOf 2 (pair 31 32) ≡ 2147483648 ∷ 1 ∷ [])
    × (has (0 ∷ 2 ∷ []) 33 ≡ true)
    × (has (0 ∷ 2 ∷ []) 65 ≡ false)
    × (inserted (0 ∷ 2 ∷ []) 32 ≡ 0 ∷ 3 ∷ [])
    × (inserted (1 ∷ 2 ∷ []) 31 ≡ 2147483649 ∷ 2 ∷ [])
    × (joined (setOf 2 (pair 1 31)) (setOf 2 (pair 31 32)) ≡ 2147483650 ∷ 1 ∷ [])
    × (joined (5 ∷ 2 ∷ []) (3 ∷ []) ≡ 7 ∷ 2 ∷ [])
    × (joined (5 ∷ []) (3 ∷ 2 ∷ []) ≡ 7 ∷ [])
    × (ones_of (6 ∷ 2147483648 ∷ 4294967295 ∷ []) ≡ 35)
    × (ones_of (setOf 32 (λ k. eqb (k % 2) 0)) ≡ 512)
unfolding has ones_of setOf inserted joined
examples = (refl, refl, refl, refl, refl, refl, refl, refl, refl, refl, refl)
