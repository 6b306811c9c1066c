-- Schedules over windows, for any notion S of what the starts have to satisfy besides; and what ties rules to it.
use Rattle.std.specs.Prelude.{ℕ, ◌+◌, ◌≤◌, ◌<◌, ◌≡◌, List}
use Rattle.lists.specs.Lists.{◌!◌}
use Rattle.narrowing.specs.Windows.{Win}
use Rattle.narrowing.specs.Rules.{Family, Stable}

-- whole starts s within the windows W that satisfy S
pub record Schedule (n : ℕ) (p : List ℕ) (S : List ℕ → Type 0) (W : Win) (s : List ℕ) : Type 0 where
  pub from : (k : ℕ) → k < n → W.e ! k ≤ s ! k
  pub to : (k : ℕ) → k < n → s ! k + p ! k ≤ W.l ! k
  pub fits : S s

-- W holds just the jobs started at s: each window begins at the start and is as long as its job
pub record Fixed (n : ℕ) (p : List ℕ) (s : List ℕ) (W : Win) : Type 0 where
  pub early : (k : ℕ) → k < n → W.e ! k ≡ s ! k
  pub late : (k : ℕ) → k < n → W.l ! k ≡ s ! k + p ! k

-- no rule applies to windows fixed by a schedule
abbrev pub Sound : ℕ → List ℕ → Family → (List ℕ → Type 0) → Type 0
Sound n p G S = (s : List ℕ) (W : Win) → Fixed n p s W → S s → Stable n G W

-- on fixed windows the rules say just what a schedule is
pub record Exact (n : ℕ) (p : List ℕ) (G : Family) (S : List ℕ → Type 0) : Type 0 where
  pub sound : Sound n p G S
  pub full : (s : List ℕ) (W : Win) → Fixed n p s W → Stable n G W → S s
