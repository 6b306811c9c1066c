-- What the defined run looks for: for a job's side the choice that comes next, the bound that it stands for, and the move by it.
use Rattle.std.specs.Prelude.{ℕ, ◌<◌, List}
use Rattle.std.proofs.Math.Option.{Option, none, some}
use Rattle.narrowing.specs.Windows.{Win, Side, Long, moved}
use Rattle.narrowing.specs.Rules.{Family}

-- n jobs of durations p; for a job's side the choice that comes next, if any; and the bound that a choice stands for
pub record Search : Type 0 where
  pub n : ℕ
  pub p : List ℕ
  pub best : Win → ℕ → Side → Option ℕ
  pub bound : Side → ℕ → ℕ

-- the choice found, whose bound is `to c`, or that there is none
abbrev pub Offered : (ℕ → Type 0) → (ℕ → ℕ) → Option ℕ → Type 0
Offered P to none = (b : ℕ) → P b → ⊥
Offered P to (some c) = P (to c)

-- the search offers a move of the rules, and one wherever a rule applies
pub record Searches (R : Search) (G : Family) : Type 0 where
  pub best-is : (W : Win) (j : ℕ) (s : Side) → Long R.n R.p W → j < R.n → Offered (G W j s) (R.bound s) (R.best W j s)

-- the windows after job j's side s is moved by the choice c
abbrev pub after : Search → Win → ℕ → Side → ℕ → Win
after R W j s c = moved W j s (R.bound s c)

-- a move: the job, its side, the choice, and the windows before
pub record Move : Type 0 where
  pub job : ℕ
  pub side : Side
  pub choice : ℕ
  pub before : Win

abbrev pub move : Win → ℕ → Side → ℕ → Move
move W j s c = record { job = j; side = s; choice = c; before = W }
