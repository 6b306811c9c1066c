-- Refusals 33 and 34 of document 02, Item 1, and the longest chains where neither is given.
use Rattle.std.specs.Prelude.{ℕ, ◌+◌, ◌≤◌, ◌<◌, ◌≡◌, Bool, true, false, List, ◌⊎◌, Result, Ok, Err}
use Rattle.lists.specs.Lists.{◌!◌}
use Rattle.chains.specs.Paths.{Pair, Precedes, weight, Cycle, Longest, Longer, Back}
use Rattle.answers.specs.declared.reasons.Refusal.{Refusal}

-- whether a value plus its job's duration is above h
abbrev pub ExceedsSays : List ℕ → List ℕ → ℕ → ℕ → Bool → Type 0
ExceedsSays v p n h true = (j : ℕ) × (j < n) × (h < v ! j + p ! j)
ExceedsSays v p n h false = (j : ℕ) → j < n → v ! j + p ! j ≤ h

-- neither: `heads` are the longest chains before the jobs, `tails` those after them
pub record ChainsFound (ps : List Pair) (n : ℕ) (p : List ℕ) (h : ℕ) (heads tails : List ℕ) : Type 0 where
  pub acyclic : Cycle (Precedes ps) → ⊥
  pub short : Longer (Precedes ps) n (weight p) h → ⊥
  pub before : (j : ℕ) → Longest (Precedes ps) (weight p) j (heads ! j)
  pub after : (j : ℕ) → Longest (Back (Precedes ps)) (weight p) j (tails ! j)
  pub low : (j : ℕ) → (heads ! j ≤ h) × (tails ! j ≤ h)

-- by the result
abbrev pub OrderSays : List Pair → ℕ → List ℕ → ℕ → List ℕ → List ℕ → Result Unit Refusal → Type 0
OrderSays ps n p h heads tails (Ok u) = ChainsFound ps n p h heads tails
OrderSays ps n p h heads tails (Err c) =
    ((c ≡ Refusal.Cycle) × Cycle (Precedes ps)) ⊎ ((c ≡ Refusal.Horizon) × (Cycle (Precedes ps) → ⊥) × Longer (Precedes ps) n (weight p) h)
