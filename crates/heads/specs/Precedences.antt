-- One job at a time on the single read head (document 02, Item 2; 001): what a schedule is, and the two rules of detectable precedences. Of job k, e is
-- `W.e ! k`, l is `W.l ! k` and p is `p ! k`. Jobs of duration 0 neither move nor are counted. A rule gives a bound for each of its sets; the greatest of
-- them is what the run looks for (`Search`).
use Rattle.std.specs.Prelude.{ℕ, ◌+◌, ◌≤◌, ◌<◌, ◌≡◌, true, List}
use Rattle.lists.specs.Lists.{◌!◌}
use Rattle.lists.specs.Sets.{Set, Ends}
use Rattle.lists.specs.Bounds.{Begins}
use Rattle.narrowing.specs.Windows.{Win, early, late}
use Rattle.narrowing.specs.Rules.{Family}

-- ---- schedules

-- two jobs of positive duration, started at s, overlap
pub record Overlap (n : ℕ) (p s : List ℕ) : Type 0 where
  pub i : ℕ
  pub j : ℕ
  pub listed_i : i < n
  pub listed_j : j < n
  pub two : i ≡ j → ⊥
  pub lasts_i : 1 ≤ p ! i
  pub lasts_j : 1 ≤ p ! j
  pub before : s ! i < s ! j + p ! j
  pub after : s ! j < s ! i + p ! i

-- no two do
abbrev pub Apart : ℕ → List ℕ → List ℕ → Type 0
Apart n p s = Overlap n p s → ⊥

-- ---- the rules

-- job j comes before job i: e + p of i exceeds l - p of j
pub record ComesFirst (p : List ℕ) (W : Win) (j i : ℕ) : Type 0 where
  pub other : j ≡ i → ⊥
  pub lasts_j : 1 ≤ p ! j
  pub lasts_i : 1 ≤ p ! i
  pub exceeds : W.l ! j < W.e ! i + p ! i + p ! j

-- side 0: i cannot start before b, the least e plus total p of a non-empty set of jobs that come before it
pub record StartsAfter (n : ℕ) (p : List ℕ) (W : Win) (i b : ℕ) : Type 0 where
  pub T : Set
  pub first : (k : ℕ) → k < n → T k ≡ true → ComesFirst p W k i
  pub ends : Ends n W.e p T b
  pub tightens : W.e ! i < b

-- side 1: i cannot end after b, the greatest l less total p of a non-empty set of jobs that it comes before; where that lies below zero b is 0, which
-- closes the window too (`below_zero_closes`)
pub record EndsBefore (n : ℕ) (p : List ℕ) (W : Win) (i b : ℕ) : Type 0 where
  pub T : Set
  pub last : (k : ℕ) → k < n → T k ≡ true → ComesFirst p W i k
  pub begins : Begins n W.l p T b
  pub tightens : b < W.l ! i

abbrev pub Detects : ℕ → List ℕ → Family
Detects n p W i early b = StartsAfter n p W i b
Detects n p W i late b = EndsBefore n p W i b
