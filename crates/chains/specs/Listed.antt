-- Precedence pairs in two lists, jobs and successors (document 01, 'Library layouts'), and their order (document 02, Item 13).
use Rattle.std.specs.Prelude.{ℕ, suc, ◌≤◌, ◌<◌, ◌≡◌, List, [], ◌∷◌, ◌⊎◌, length}
use Rattle.lists.specs.Lists.{◌!◌}
use Rattle.chains.specs.Paths.{Pair, pair}

-- the pairs that stand there
abbrev pub paired : List ℕ → List ℕ → List Pair
paired [] ss = []
paired (j ∷ js) [] = []
paired (j ∷ js) (s ∷ ss) = pair j s ∷ paired js ss

-- the pair at place i is of the n jobs
abbrev pub PairInRange : ℕ → List ℕ → List ℕ → ℕ → Type 0
PairInRange n js ss i = (js ! i < n) × (ss ! i < n)

-- the pair at place i comes before the next: a lower job, or the same job and a lower successor
abbrev pub InOrder : List ℕ → List ℕ → ℕ → Type 0
InOrder js ss i = (js ! i < js ! suc i) ⊎ ((js ! i ≡ js ! suc i) × (ss ! i < ss ! suc i))

-- every pair is of the n jobs, and they are in strictly rising order
pub record Rising (n : ℕ) (js ss : List ℕ) : Type 0 where
  pub range : (i : ℕ) → i < length js → PairInRange n js ss i
  pub order : (i : ℕ) → suc i < length js → InOrder js ss i

-- the pair at place i is not, or does not come before the next
abbrev pub PairOutOfRange : ℕ → List ℕ → List ℕ → ℕ → Type 0
PairOutOfRange n js ss i = (n ≤ js ! i) ⊎ (n ≤ ss ! i)

abbrev pub OutOfOrder : List ℕ → List ℕ → ℕ → Type 0
OutOfOrder js ss i = (js ! suc i < js ! i) ⊎ ((js ! suc i ≡ js ! i) × (ss ! suc i ≤ ss ! i))

-- some pair is out of range or out of order
abbrev pub NotRising : ℕ → List ℕ → List ℕ → Type 0
NotRising n js ss = ((i : ℕ) × (i < length js) × PairOutOfRange n js ss i) ⊎ ((i : ℕ) × (suc i < length js) × OutOfOrder js ss i)
