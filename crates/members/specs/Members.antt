-- Member sets (01, 'Log records'): sets of numbers as bits of words of 32 bits, whatever the number of words.
use Rattle.std.specs.Prelude.{ℕ, zero, suc, ◌+◌, ◌*◌, ◌/◌, ◌%◌, ◌^◌, ◌<◌, Bool, List, [], ◌∷◌, eqb, length, set}
use Rattle.std.specs.Int.Bits.{bit_or}
use Rattle.std.specs.Int.Count.{ones_in}
use Rattle.lists.specs.Lists.{◌!◌}
use Rattle.lists.specs.Tests.{only}

-- the number of words of a record's member set
abbrev pub set_words : ℕ
set_words = 8

-- k is a member: bit (k mod 32) of word (k div 32), bit 0 lowest
unfoldable pub has : List ℕ → ℕ → Bool
has ws k = eqb ((ws ! (k / 32)) / 2 ^ (k % 32) % 2) 1

-- the numbers that words have a bit for are those below it
abbrev pub places : List ℕ → ℕ
places ws = 32 * length ws

-- the number of ones in words of 32 bits
unfoldable pub ones_of : List ℕ → ℕ
unfolding ones_in
ones_of [] = 0
ones_of (x ∷ ws) = ones_in 32 x + ones_of ws

-- the number of m bits that say whether b, b + 1, .. are members, the lowest bit first
unfoldable pub word : (ℕ → Bool) → ℕ → ℕ → ℕ
word f b zero = 0
word f b (suc m) = word f (suc b) m * 2 + only (f b) 1

-- w words for the members from b on
unfoldable pub words : (ℕ → Bool) → ℕ → ℕ → List ℕ
unfolding word
words f b zero = []
words f b (suc w) = word f b 32 ∷ words f (b + 32) w

-- the set of w words that has k where f k is true
unfoldable pub setOf : ℕ → (ℕ → Bool) → List ℕ
unfolding words
setOf w f = words f 0 w

-- the set with k put in
unfoldable pub inserted : List ℕ → ℕ → List ℕ
inserted ws k = set ws (k / 32) (bit_or (ws ! (k / 32)) (2 ^ (k % 32)))

-- the words with the members of others put in, as far as the words go
unfoldable pub joined : List ℕ → List ℕ → List ℕ
joined [] vs = []
joined (x ∷ ws) [] = x ∷ ws
joined (x ∷ ws) (y ∷ vs) = bit_or x y ∷ joined ws vs

-- each number is a word of 32 bits
abbrev pub AreWords : List ℕ → Type 0
AreWords ws = (q : ℕ) → ws ! q < 2 ^ 32
