-- What the byte that a cursor stands at says of the line that it is in; there is none at the end of the input.
use Rattle.std.specs.Prelude.{Bool, true, false, ℕ, eqb, leb, Option, Some, None}

-- it is a line feed, or the input ends
abbrev pub line_end : Option ℕ → Bool
line_end None = true
line_end (Some byte) = eqb byte 10

-- it is that byte
abbrev pub at_byte : Option ℕ → ℕ → Bool
at_byte None byte = false
at_byte (Some now) byte = eqb now byte

abbrev both : Bool → Bool → Bool
both true b = b
both false b = false

-- it is a digit
abbrev pub at_digit : Option ℕ → Bool
at_digit None = false
at_digit (Some now) = both (leb 48 now) (leb now 57)
