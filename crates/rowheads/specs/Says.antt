-- What the functions of this crate say of a text s: what was read, up to a place in it.
use Rattle.std.specs.Prelude.{ℕ, ◌≡◌, List, drop, Result, Ok, Err}
use Rattle.answers.specs.declared.reasons.Refusal.{Refusal}
use Rattle.answers.specs.Said.{number_of}
use Rattle.lists.specs.Lists.{◌!◌}
use Rattle.texts.specs.Tokens.{tokens}
use Rattle.texts.specs.Readings.{Read, bad, good}
use Rattle.scanner.specs.declared.Got.{Got}
use Rattle.projects.specs.Projects.{Head}
use Rattle.rowheads.specs.declared.RowHead.{RowHead}

-- of numbers read, the one at `res`
abbrev pub PickSays : Read (List ℕ) → List ℕ → ℕ → Result Got Refusal → Type 0
PickSays r s res (Ok got) = (xs : List ℕ) × (r ≡ good xs (tokens (drop got.to s))) × (xs ! res ≡ got.value)
PickSays r s res (Err c) = r ≡ bad (number_of c)

-- the head of a row
abbrev pub HeadSays : Read Head → List ℕ → ℕ → Result RowHead Refusal → Type 0
HeadSays r s res (Ok head) = (h : Head) × (r ≡ good h (tokens (drop head.to s))) × (h.duration ≡ head.duration) × (h.demands ! res ≡ head.demand) × (h.count ≡ head.count)
HeadSays r s res (Err c) = r ≡ bad (number_of c)
