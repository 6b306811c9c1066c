-- Windows of jobs, their two sides, a move of one bound, and windows that are too short (document 02, Item 3). Job k's earliest start is
-- `W.e ! k`, its latest end `W.l ! k`.
use Rattle.std.specs.Prelude.{ℕ, zero, suc, ◌+◌, ◌-◌, ◌≤◌, ◌<◌, Bool, List, set, ltb}
use Rattle.std.proofs.Math.Option.{Option}
use Rattle.lists.specs.Lists.{◌!◌}
use Rattle.lists.specs.Extremes.{least}

-- earliest starts and latest ends
pub record Win : Type 0 where
  pub e : List ℕ
  pub l : List ℕ

abbrev pub win : List ℕ → List ℕ → Win
win e l = record { e = e; l = l }

-- side 0 raises an earliest start, side 1 lowers a latest end
pub data Side : Type 0 where
  early : Side
  late : Side

-- the paper's number of a side
abbrev pub number : Side → ℕ
number early = 0
number late = 1

-- and the side of a number
abbrev pub side_of : ℕ → Side
side_of zero = early
side_of (suc s) = late

-- each of the n windows is long enough for its job
unfoldable pub Long : ℕ → List ℕ → Win → Type 0
Long n p W = (k : ℕ) → k < n → W.e ! k + p ! k ≤ W.l ! k

-- job j's window is shorter than the job
abbrev pub closes : List ℕ → Win → ℕ → Bool
closes p W j = ltb (W.l ! j) (W.e ! j + p ! j)

-- job j is the lowest of the n whose window is too short for its job: e + p > l
pub record LowestTooShort (n : ℕ) (p : List ℕ) (W : Win) (j : ℕ) : Type 0 where
  pub listed : j < n
  pub shorter : W.l ! j < W.e ! j + p ! j
  pub before : Long j p W

-- that job, if there is one
unfoldable pub lowest_too_short : ℕ → List ℕ → Win → Option ℕ
unfolding least
lowest_too_short n p W = least (closes p W) 0 n

-- the windows U lie inside the windows W
pub record Inside (n : ℕ) (U W : Win) : Type 0 where
  pub early : (k : ℕ) → k < n → W.e ! k ≤ U.e ! k
  pub late : (k : ℕ) → k < n → U.l ! k ≤ W.l ! k

-- one bound of job j becomes b
abbrev pub moved : Win → ℕ → Side → ℕ → Win
moved W j early b = record { e = set W.e j b; l = W.l }
moved W j late b = record { e = W.e; l = set W.l j b }

-- b is tighter than W's bound
abbrev pub Tighter : Win → ℕ → Side → ℕ → Type 0
Tighter W j early b = W.e ! j < b
Tighter W j late b = b < W.l ! j

-- W's bound is b or tighter
abbrev pub Respects : Win → ℕ → Side → ℕ → Type 0
Respects W j early b = b ≤ W.e ! j
Respects W j late b = W.l ! j ≤ b

-- the sum of l - e - p over the jobs below m; a window that is too short counts 0
unfoldable pub slack : List ℕ → Win → ℕ → ℕ
slack p W zero = 0
slack p W (suc m) = slack p W m + (W.l ! m - (W.e ! m + p ! m))
