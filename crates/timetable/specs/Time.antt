-- Time-tabling on one resource (document 01, 'Job lists' and 'The two time-tabling rules'; 002, the time-resource decomposition): schedules, sure
-- parts, crowded times and the two rules. Of job k, e is `W.e ! k`, l is `W.l ! k`, p is `p ! k` and r is `r ! k`.
use Rattle.std.specs.Prelude.{ℕ, zero, suc, ◌+◌, ◌≤◌, ◌<◌, Bool, not, List, ltb, leb, eqb}
use Rattle.lists.specs.Lists.{◌!◌}
use Rattle.lists.specs.Tests.{both, only}
use Rattle.lists.specs.Sums.{total}
use Rattle.lists.specs.Sets.{Set}
use Rattle.narrowing.specs.Windows.{Win, Side, early, late}
use Rattle.narrowing.specs.Rules.{Family}

-- what narrowing never changes: the number of jobs, durations, demands, the capacity
pub record Jobs : Type 0 where
  pub n : ℕ
  pub p : List ℕ
  pub r : List ℕ
  pub cap : ℕ

-- ---- schedules

-- job k, started at s, runs at t: s ≤ t < s + p
pub record Runs (p s : List ℕ) (k t : ℕ) : Type 0 where
  pub from : s ! k ≤ t
  pub to : t < s ! k + p ! k

unfoldable pub runs_at : List ℕ → List ℕ → ℕ → ℕ → Bool
runs_at p s k t = both (leb (s ! k) t) (ltb t (s ! k + p ! k))

-- the demands of the jobs of M that run at t; of all jobs
unfoldable pub drawn_by : Jobs → Set → List ℕ → ℕ → ℕ
unfolding total runs_at
drawn_by J M s t = total (λ k. only (both (M k) (runs_at J.p s k t)) (J.r ! k)) J.n

unfoldable pub drawn : Jobs → List ℕ → ℕ → ℕ
unfolding total runs_at
drawn J s t = total (λ k. only (runs_at J.p s k t) (J.r ! k)) J.n

-- at every time they add up to at most the capacity
unfoldable pub Fits : Jobs → List ℕ → Type 0
Fits J s = (t : ℕ) → drawn J s t ≤ J.cap

-- at some time the supply is overdrawn
abbrev pub Overdrawn : Jobs → List ℕ → Type 0
Overdrawn J s = (t : ℕ) × (J.cap < drawn J s t)

-- ---- sure parts and crowded times

-- job k's sure part holds t: l - p ≤ t < e + p
pub record Sure (p : List ℕ) (W : Win) (k t : ℕ) : Type 0 where
  pub from : W.l ! k ≤ t + p ! k
  pub to : t < W.e ! k + p ! k

unfoldable pub sure : List ℕ → Win → ℕ → ℕ → Bool
sure p W k t = both (leb (W.l ! k) (t + p ! k)) (ltb t (W.e ! k + p ! k))

-- the demands of the jobs other than j whose sure part holds t
unfoldable pub load : Jobs → Win → ℕ → ℕ → ℕ
unfolding total sure
load J W j t = total (λ k. only (both (not (eqb k j)) (sure J.p W k t)) (J.r ! k)) J.n

-- t is crowded for job j: with j's own demand they exceed the capacity
pub record Crowded (J : Jobs) (W : Win) (j t : ℕ) : Type 0 where
  pub lasts : 1 ≤ J.p ! j
  pub takes : 1 ≤ J.r ! j
  pub over : J.cap < load J W j t + J.r ! j

-- ---- the two rules

-- side 0: a crowded t with e ≤ t < e + p
pub record Early (J : Jobs) (W : Win) (j t : ℕ) : Type 0 where
  pub from : W.e ! j ≤ t
  pub to : t < W.e ! j + J.p ! j
  pub crowded : Crowded J W j t

-- side 1: a crowded t with l - p ≤ t < l
pub record Late (J : Jobs) (W : Win) (j t : ℕ) : Type 0 where
  pub from : W.l ! j ≤ t + J.p ! j
  pub to : t < W.l ! j
  pub crowded : Crowded J W j t

-- the bound that a time stands for: side 0 moves the earliest start to t + 1, side 1 the latest end to t
abbrev pub bound : Side → ℕ → ℕ
bound early t = suc t
bound late t = t

-- a rule moves job j's side s to the bound b
abbrev pub Applies : Jobs → Family
Applies J W j early zero = ⊥
Applies J W j early (suc t) = Early J W j t
Applies J W j late t = Late J W j t
