-- A text that starts with a run of bytes other than blanks, and a blank behind it: the first token is that run's.
use Prim.Native.Nat.{ℕ, ◌<◌}
use native.Mathlib.Omega.{arith}
use mathlib.Core.Path.{◌≡◌, refl, ◌∙◌}
use mathlib.Core.Bool.{true, false}
use mathlib.Core.List.{List, [], ◌∷◌, ◌++◌}
use lib.ListN.{length}
use Rattle.lists.specs.Lists.{Every}
use Rattle.texts.specs.Tokens.{blank, solid_runs, Token, number, more, token_from, token, tokens}
use Rattle.scanner.specs.Scan.{tokens_inside}
use Rattle.scanner.proofs.Tokens.{tokens_start}

-- no byte is a blank
abbrev pub Solid : List ℕ → Type 0
Solid t = Every (λ b. blank b ≡ false) t

-- a run and then more bytes of it
pub token_append : (w : Token) (s t : List ℕ) → token_from w (s ++ t) ≡ token_from (token_from w s) t
unfolding token_from
token_append w [] t = refl
token_append w (b ∷ s) t = token_append (more w b) s t

-- inside a token, up to the blank
inside_run : (w : Token) (t : List ℕ) (b : ℕ) (rest : List ℕ) → Solid t → blank b ≡ true → tokens_inside w (t ++ b ∷ rest) ≡ token_from w t ∷ tokens rest
unfolding tokens_inside token_from
inside_run w [] b rest h e = rw e
inside_run w (a ∷ t) b rest h e = rw h.0 (inside_run (more w a) t b rest h.1 e)

pub tokens_run : (t : List ℕ) (b : ℕ) (rest : List ℕ) → 0 < length t → Solid t → blank b ≡ true → tokens (t ++ b ∷ rest) ≡ token t ∷ tokens rest
unfolding token
tokens_run [] b rest l h e = absurd (omega arith)
tokens_run (a ∷ t) b rest l h e = tokens_start (a ∷ (t ++ b ∷ rest)) 0 (omega arith) h.0 ∙ inside_run (number 0) (a ∷ t) b rest h e

-- a blank in front
pub tokens_over : (b : ℕ) (rest : List ℕ) → blank b ≡ true → tokens (b ∷ rest) ≡ tokens rest
unfolding tokens solid_runs
tokens_over b rest e = rw e
