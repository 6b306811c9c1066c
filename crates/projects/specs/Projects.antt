-- What a text of a public library says, whatever its layout: jobs with a duration, a demand on each resource, and successors (document 01, 'Library
-- layouts').
use Rattle.std.specs.Prelude.{ℕ, suc, ◌-◌, ◌≤◌, cond, List, [], ◌∷◌, ◌++◌, map, eqb, length}
use Rattle.lists.specs.Lists.{◌!◌}
use Rattle.joblist.specs.Limits.{most_time, most_demand, most_jobs}
use Rattle.chains.specs.Paths.{Pair, pair, Precedes, Below}
use Rattle.texts.specs.Tokens.{Token}
use Rattle.texts.specs.Readings.{Read, bad, good, and_then, one, in_turn}

-- a job: a demand for each resource, its successors numbered from 0
pub record Row : Type 0 where
  pub duration : ℕ
  pub demands : List ℕ
  pub successors : List ℕ

-- a capacity for each resource, a row for each job
pub record Project : Type 0 where
  pub capacities : List ℕ
  pub rows : List Row

-- a successor: from 1 to n in the text, from 0 here; 32 for any other number
unfoldable pub link : ℕ → List Token → Read ℕ
unfolding one
link n ts = and_then (one n 32 ts) (λ v rest. cond (eqb v 0) (bad 32) (good (v - 1) rest))

-- what stands before a row's successors: a duration, a demand for each resource, how many successors
pub record Head : Type 0 where
  pub duration : ℕ
  pub demands : List ℕ
  pub count : ℕ

-- a whole row: its head, however that is laid out, then so many successors
unfoldable pub headed : ℕ → Read Head → Read Row
unfolding in_turn link
headed n r =
    and_then r (λ h rest.
    and_then (in_turn (λ i. link n) 0 h.count rest) (λ ss end.
    good (record { duration = h.duration; demands = h.demands; successors = ss }) end))

-- job j with each of its successors
abbrev pub tagged : ℕ → List ℕ → List Pair
tagged j [] = []
tagged j (s ∷ ss) = pair j s ∷ tagged j ss

-- the precedences of rows numbered from j on
unfoldable pub pairs_from : ℕ → List Row → List Pair
pairs_from j [] = []
pairs_from j (r ∷ rs) = tagged j r.successors ++ pairs_from (suc j) rs

-- all precedences, in text order
abbrev pub pairs_of : Project → List Pair
pairs_of x = pairs_from 0 x.rows

-- the jobs' durations, and their demands on one resource
abbrev pub durations : List Row → List ℕ
durations rs = map (λ (r : Row). r.duration) rs

abbrev pub demands_on : ℕ → List Row → List ℕ
demands_on resource rs = map (λ (r : Row). r.demands ! resource) rs

-- a project whose numbers are within their limits, its successors among its jobs
pub record WithinLimits (x : Project) : Type 0 where
  pub few : length x.rows ≤ most_jobs
  pub capacities : (k : ℕ) → x.capacities ! k ≤ most_demand
  pub durations : (j : ℕ) → durations x.rows ! j ≤ most_time
  pub demands : (resource j : ℕ) → demands_on resource x.rows ! j ≤ most_demand
  pub range : Below (length x.rows) (Precedes (pairs_of x))
