-- Rounds over pairs, wherever they are read from: r is the reading of them. Each job has a value, a chain's length; a round raises each successor's
-- value to its job's value plus duration, up to a limit. With `back` the pairs are taken the other way round, for chains after a job.
use Rattle.std.specs.Prelude.{ℕ, ◌+◌, ◌≤◌, ◌<◌, ◌≡◌, Bool, true, false, List, [], ◌∷◌, set, Option, Some, None}
use Rattle.lists.specs.Lists.{◌!◌}
use Rattle.lists.specs.Sums as sums
use Rattle.joblist.specs.Limits.{most_jobs}
use Rattle.chains.specs.Paths.{Pair, pair, Precedes, flipped, Below, weight, Chain}
use Rattle.chains.specs.Passes.{Chained, NoneRaises, pass}
use Rattle.texts.specs.Tokens.{Token}
use Rattle.texts.specs.Readings.{Read, good}
use Rattle.passes.specs.declared.Rise.{Rise}
use Rattle.passes.specs.declared.Rise.TheVariants.{Kept, Rose, High}
use Rattle.passes.specs.declared.Round.{Round}
use Rattle.passes.specs.declared.Round.TheVariants.{Same, Changed, Over}

-- what is drawn from a reading of pairs: the next one, a job and its successor, with the reading behind it; or there are no more
abbrev pub Drawn : Read (List Pair) → Option (ℕ × ℕ) → Read (List Pair) → Type 0
Drawn now (Some p) later =
    ((ps : List Pair) (end : List Token) → now ≡ good ps end → (rest : List Pair) × (ps ≡ pair p.0 p.1 ∷ rest) × (later ≡ good rest end)) × (p.0 < most_jobs) × (p.1 < most_jobs)
Drawn now None later = (ps : List Pair) (end : List Token) → now ≡ good ps end → ps ≡ []

-- b's value in v raised to a's plus x, unless that is above `top`
abbrev pub RiseSays : List ℕ → List ℕ → ℕ → ℕ → ℕ → ℕ → Rise → Type 0
RiseSays v u a b x top Kept = (u ≡ v) × (v ! a + x ≤ v ! b)
RiseSays v u a b x top Rose = (u ≡ set v b (v ! a + x)) × (v ! b < v ! a + x) × (v ! a + x ≤ top)
RiseSays v u a b x top High = (u ≡ v) × (top < v ! a + x)

-- the sum of an array's numbers: it rises with every round that changes something
abbrev pub sum : List ℕ → ℕ
sum v = sums.total (λ i. v ! i) most_jobs

-- some chain is longer than top
pub record ChainOver (ps : List Pair) (p : List ℕ) (top : ℕ) : Type 0 where
  pub at : ℕ
  pub length : ℕ
  pub chain : Chain (Precedes ps) (weight p) at length
  pub over : top < length

-- one round: nothing changed; something did; some chain is longer than top
abbrev pub RoundSays : Read (List Pair) → List ℕ → Bool → ℕ → List ℕ → List ℕ → Round → Type 0
RoundSays r p back top v u Same = (u ≡ v) × ((ps : List Pair) (end : List Token) → r ≡ good ps end → pass (weight p) (flipped back ps) v ≡ v)
RoundSays r p back top v u Changed =
    (sum v < sum u) × ((j : ℕ) → u ! j ≤ top) × ((ps : List Pair) (end : List Token) → r ≡ good ps end → u ≡ pass (weight p) (flipped back ps) v)
RoundSays r p back top v u Over = (ps : List Pair) (end : List Token) → r ≡ good ps end → Chained (Precedes (flipped back ps)) (weight p) v → ChainOver (flipped back ps) p top

-- rounds until nothing changes: values that are chains' lengths and that no pair raises
pub record AtRest (r : Read (List Pair)) (n : ℕ) (p : List ℕ) (back : Bool) (top : ℕ) (v : List ℕ) : Type 0 where
  pub low : (j : ℕ) → v ! j ≤ top
  pub chains : (ps : List Pair) (end : List Token) → r ≡ good ps end → Chained (Precedes (flipped back ps)) (weight p) v
  pub stable : (ps : List Pair) (end : List Token) → r ≡ good ps end → Below n (Precedes ps) → NoneRaises (Precedes (flipped back ps)) (weight p) v

-- or until some chain is longer than top
pub record Overrun (r : Read (List Pair)) (p : List ℕ) (back : Bool) (top : ℕ) : Type 0 where
  pub long : (ps : List Pair) (end : List Token) → r ≡ good ps end → ChainOver (flipped back ps) p top

-- by the answer of rounds: at rest, or overrun
abbrev pub SettleSays : Read (List Pair) → ℕ → List ℕ → Bool → ℕ → List ℕ → Bool → Type 0
SettleSays r n p back top v true = AtRest r n p back top v
SettleSays r n p back top v false = Overrun r p back top
