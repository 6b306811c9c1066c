-- Refusals 32 and 33 of pairs that are lent as two lists, jobs and successors (document 02, Item 13): what the two tests say; and the pairs as a reading.
use Rattle.std.specs.Prelude.{ℕ, suc, ◌<◌, Bool, true, false, List, [], ◌⊎◌, length}
use Rattle.joblist.specs.Limits.{most_jobs}
use Rattle.chains.specs.Paths.{Pair, Precedes, Cycle}
use Rattle.chains.specs.Listed.{paired, PairInRange, InOrder, Rising, PairOutOfRange, OutOfOrder, NotRising}
use Rattle.texts.specs.Readings.{Read, good}

-- the pairs as they are read one by one, with nothing behind them
abbrev pub read_pairs : List ℕ → List ℕ → Read (List Pair)
read_pairs js ss = good (paired js ss) []

-- every pair can be a pair of jobs
pub record OfJobs (js ss : List ℕ) : Type 0 where
  pub below : (i : ℕ) → i < length js → PairInRange most_jobs js ss i

-- the pair at place i is of the n jobs and comes before the next, where there is one; or it is not, or does not
abbrev pub PlacedSays : ℕ → List ℕ → List ℕ → ℕ → Bool → Type 0
PlacedSays n js ss i true = PairInRange n js ss i × (suc i < length js → InOrder js ss i)
PlacedSays n js ss i false = PairOutOfRange n js ss i ⊎ ((suc i < length js) × OutOfOrder js ss i)

-- every pair is of the n jobs and they are in strictly rising order, or not
abbrev pub RisingSays : ℕ → List ℕ → List ℕ → Bool → Type 0
RisingSays n js ss true = Rising n js ss
RisingSays n js ss false = NotRising n js ss

-- there is a cycle along the pairs, or none
abbrev pub CycleSays : List ℕ → List ℕ → Bool → Type 0
CycleSays js ss true = Cycle (Precedes (paired js ss))
CycleSays js ss false = Cycle (Precedes (paired js ss)) → ⊥
