-- The tokens of a text, and which of them are numbers (document 01, 'Library layouts'; a text is a list of bytes). A number is a whole token of
-- decimal digits, of any length.
use Rattle.std.specs.Prelude.{ℕ, ◌+◌, ◌-◌, ◌*◌, Bool, false, cond, not, List, [], ◌∷◌, map, leb, eqb}
use Rattle.lists.specs.Tests.{both, either}

-- space, tab, carriage return, line feed
unfoldable pub blank : ℕ → Bool
blank b = either (eqb b 32) (either (eqb b 9) (either (eqb b 13) (eqb b 10)))

-- 0 to 9
unfoldable pub digit : ℕ → Bool
digit b = both (leb 48 b) (leb b 57)

-- the text goes on with a byte that is no blank
abbrev pub goes_on : List ℕ → Bool
goes_on [] = false
goes_on (b ∷ s) = not (blank b)

-- a byte in front of the first run
abbrev pub onto : ℕ → List (List ℕ) → List (List ℕ)
onto b [] = (b ∷ []) ∷ []
onto b (t ∷ ts) = (b ∷ t) ∷ ts

-- the longest runs of bytes other than blanks
unfoldable pub solid_runs : List ℕ → List (List ℕ)
unfolding blank
solid_runs [] = []
solid_runs (b ∷ s) = cond (blank b) (solid_runs s) (cond (goes_on s) (onto b (solid_runs s)) ((b ∷ []) ∷ solid_runs s))

-- what such a run is: a number, or anything else
pub data Token : Type 0 where
  number : ℕ → Token
  other : Token

-- with one byte more
abbrev pub more : Token → ℕ → Token
more other b = other
more (number v) b = cond (digit b) (number (v * 10 + (b - 48))) other

-- with all bytes of a run more
unfoldable pub token_from : Token → List ℕ → Token
unfolding digit
token_from w [] = w
token_from w (b ∷ t) = token_from (more w b) t

-- a run is a number where all of its bytes are digits
unfoldable pub token : List ℕ → Token
unfolding token_from
token t = token_from (number 0) t

-- all of a text's
unfoldable pub tokens : List ℕ → List Token
unfolding solid_runs token
tokens s = map token (solid_runs s)
