-- Two calls that belong together: the same jobs listed in another order (the mission's demand 3), where job k of L is job π k of K; and K's jobs asked
-- again in the windows left. The logs may differ.
use Rattle.std.specs.Prelude.{ℕ, ◌≡◌}
use Rattle.lists.specs.Permutations.{SameList}
use Rattle.narrowing.specs.Windows.{Win}
use Rattle.narrowing.specs.Rules.{Stable}
use Rattle.narrowing.specs.Renumbered.{SameWin, Alike}
use Rattle.joblist.specs.Renumbered.{SameColumns}
use Rattle.promises.specs.Ask.{Ask}
use Rattle.promises.specs.Plain.{Task, task_of, columns}

pub record SameTask (π σ : ℕ → ℕ) (K L : Task) : Type 0 where
  pub count : L.n ≡ K.n
  pub lists : SameColumns K.n π (columns K) (columns L)
  pub numbers : L.alone ≡ K.alone
  pub windows : SameWin K.n π K.win L.win
  pub durations : SameList K.n π K.p L.p
  -- the rules do not look at the jobs' numbers
  pub there : Alike K.n π K.rules L.rules
  pub back : Alike K.n σ L.rules K.rules

abbrev pub SameAsk : (ℕ → ℕ) → (ℕ → ℕ) → Ask → Ask → Type 0
SameAsk π σ A B = SameTask π σ (task_of A) (task_of B)

pub record Anew (K : Task) (W : Win) (L : Task) : Type 0 where
  pub windows : L.win ≡ W
  pub count : L.n ≡ K.n
  pub durations : L.p ≡ K.p
  pub lists : L.beside ≡ K.beside
  pub numbers : L.alone ≡ K.alone
  -- no rule of L applies where none of K's does
  pub stable : Stable K.n K.rules W → Stable L.n L.rules L.win
