-- What the functions of this crate say of a place in the text s: `drop at s` is what is left of it from the place `at` on.
use Rattle.std.specs.Prelude.{ℕ, ◌≤◌, ◌≡◌, List, length, drop, Result, Ok, Err}
use Rattle.std.proofs.Math.Seq.{slice}
use Rattle.answers.specs.declared.reasons.Refusal.{Refusal}
use Rattle.answers.specs.Said.{number_of}
use Rattle.texts.specs.Tokens.{Token}
use Rattle.texts.specs.Readings.{Read, bad, good}
use Rattle.headings.specs.Lines.{line}

-- from `at` up to `to` stands the rest of a line
pub record LineTo (s : List ℕ) (at to : ℕ) : Type 0 where
  pub from : at ≤ length s → at ≤ to
  pub inside : to ≤ length s
  pub same : slice at to s ≡ line (drop at s)

-- the number that was read, or the refusal
abbrev pub CountSays : Read ℕ → Result ℕ Refusal → Type 0
CountSays r (Ok v) = (rest : List Token) × (r ≡ good v rest)
CountSays r (Err c) = r ≡ bad (number_of c)
