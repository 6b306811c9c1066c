-- The lines of a text (document 01, 'Library layouts'). A line ends at a line feed, or where the text does.
use Rattle.std.specs.Prelude.{ℕ, zero, suc, cond, List, [], ◌∷◌, eqb}
use Rattle.texts.specs.Tokens.{tokens}
use Rattle.texts.specs.Readings.{Read, one}

-- the line that the text starts with
unfoldable pub line : List ℕ → List ℕ
line [] = []
line (b ∷ s) = cond (eqb b 10) [] (b ∷ line s)

-- the text behind its first byte b, and nothing where it has none
unfoldable pub behind : ℕ → List ℕ → List ℕ
behind b [] = []
behind b (c ∷ s) = cond (eqb c b) s (behind b s)

-- the text behind its first line
abbrev pub next_line : List ℕ → List ℕ
next_line s = behind 10 s

-- the text behind so many lines
unfoldable pub behind_lines : ℕ → List ℕ → List ℕ
unfolding behind
behind_lines zero s = s
behind_lines (suc m) s = behind_lines m (next_line s)

-- the number behind the first colon of the line: 30 where none stands there, 31 where it is above `top`
unfoldable pub counted : ℕ → List ℕ → Read ℕ
unfolding line behind
counted top s = one top 31 (tokens (behind 58 (line s)))
