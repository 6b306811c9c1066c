-- Tokens as code meets them, byte by byte: what the functions of this crate say of a place in the text. `tokens (drop at s)` is what is left of
-- the text s from the place `at` on.
use Rattle.std.specs.Prelude.{ℕ, ◌≤◌, ◌<◌, ◌≡◌, Bool, true, false, cond, List, [], ◌∷◌, length, drop, Result, Ok, Err}
use Rattle.lists.specs.Lists.{◌!◌}
use Rattle.scanner.specs.declared.scan.Next.{Next}
use Rattle.scanner.specs.declared.scan.Next.TheVariants.{Number, Other, End}
use Rattle.scanner.specs.declared.Got.{Got}
use Rattle.answers.specs.declared.reasons.Refusal.{Refusal}
use Rattle.answers.specs.Said.{number_of}
use Rattle.texts.specs.Tokens.{blank, Token, number, other, more, tokens}
use Rattle.texts.specs.Readings.{Read, bad, good}

-- the tokens of a text that goes on inside the token w
unfoldable pub tokens_inside : Token → List ℕ → List Token
tokens_inside w [] = w ∷ []
tokens_inside w (b ∷ s) = cond (blank b) (w ∷ tokens s) (tokens_inside (more w b) s)

-- a text from its first byte on that passes the test, and nothing where it has none
unfoldable pub from_first : (ℕ → Bool) → List ℕ → List ℕ
from_first f [] = []
from_first f (b ∷ s) = cond (f b) (b ∷ s) (from_first f s)

-- from `at` to `to` there are blanks alone, and none stands at `to`
pub record Skipped (s : List ℕ) (at to : ℕ) : Type 0 where
  pub same : tokens (drop at s) ≡ tokens (drop to s)
  pub stops : to < length s → blank (s ! to) ≡ false

-- the most that code holds of a number, 2 to the power 32: one more than any limit of 32 bits, so that no limit is met by a number that wrapped
abbrev pub held : ℕ
held = 4294967296

-- a number as code holds it: itself below that, and that at most
pub record Capped (x v : ℕ) : Type 0 where
  pub under : v ≤ x
  pub most : v ≤ held
  pub itself : v < held → v ≡ x

-- what the tokens ts are, by the first of them
abbrev pub Heads : List Token → List ℕ → Next → Type 0
Heads ts s (Number v to) = (x : ℕ) × Capped x v × (ts ≡ number x ∷ tokens (drop to s))
Heads ts s Other = (rest : List Token) × (ts ≡ other ∷ rest)
Heads ts s End = ts ≡ []

-- what was read, up to the place behind it
abbrev pub GotSays : Read ℕ → List ℕ → Result Got Refusal → Type 0
GotSays r s (Ok got) = r ≡ good got.value (tokens (drop got.to s))
GotSays r s (Err c) = r ≡ bad (number_of c)

-- whether no token is left
abbrev pub none? : List Token → Bool
none? [] = true
none? (t ∷ ts) = false
