-- What the functions of this crate say of the headings of a text.
use Rattle.std.specs.Prelude.{ℕ, ◌<◌, ◌≡◌, true, false, List, [], ◌∷◌, length, drop, Option, Some, None}
use Rattle.lists.specs.Lists.{◌!◌}
use Rattle.headings.specs.Headings.{headings, mark_of, marks, in_order, section}

-- which heading the text t starts with, if any
abbrev pub StandsSays : List ℕ → Option ℕ → Type 0
StandsSays t (Some k) = (k < length headings) × (mark_of 0 headings t ≡ record { which = k; from = t } ∷ [])
StandsSays t None = mark_of 0 headings t ≡ []

-- where each of the headings starts, if they are the five in order
abbrev pub FindSays : List ℕ → Option (List ℕ) → Type 0
FindSays s (Some places) = (in_order 0 (marks s) ≡ true) × ((k : ℕ) → k < length headings → section k (marks s) ≡ drop (places ! k) s) × (length places ≡ length headings)
FindSays s None = in_order 0 (marks s) ≡ false
