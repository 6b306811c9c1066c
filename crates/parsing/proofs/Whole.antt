-- The whole text: the counts and the capacities, and the project.
use Prim.Native.Nat.{ℕ}
use mathlib.Core.Path.{◌≡◌}
use mathlib.Core.List.{List, [], ◌∷◌}
use Rattle.joblist.specs.Limits.{most_demand, most_jobs, most_resources}
use Rattle.texts.specs.Tokens.{Token}
use Rattle.texts.specs.Readings.{bad, good, one, in_turn, numbers_up_to}
use Rattle.projects.specs.Projects.{Row}
use Rattle.projects.specs.Patterson.{row, Opening, opening, project}

-- ---- the counts and the capacities

pub opening_good : (ts : List Token) (n : ℕ) (t₁ : List Token) → one most_jobs 31 ts ≡ good n t₁ → (k : ℕ) (t₂ : List Token) → one most_resources 31 t₁ ≡ good k t₂
    → (cs : List ℕ) (t₃ : List Token) → numbers_up_to most_demand k t₂ ≡ good cs t₃ → opening ts ≡ good (record { jobs = n; resources = k; capacities = cs }) t₃
unfolding opening
opening_good ts n t₁ e₁ k t₂ e₂ cs t₃ e = rw (e₁, e₂, e)

-- ---- the project

pub project_bad : (ts : List Token) (c : ℕ) → opening ts ≡ bad c → project ts ≡ bad c
unfolding project
project_bad ts c e = rw e

module _ (ts t₁ : List Token) (o : Opening) (e₁ : opening ts ≡ good o t₁) where
  pub project_bad₂ : (c : ℕ) → in_turn (row o.jobs o.resources) 0 o.jobs t₁ ≡ bad c → project ts ≡ bad c
  unfolding project
  project_bad₂ c e = rw (e₁, e)

  module _ (rs : List Row) (t₂ : List Token) (e₂ : in_turn (row o.jobs o.resources) 0 o.jobs t₁ ≡ good rs t₂) where
    pub project_over : (t : Token) (t₃ : List Token) → t₂ ≡ t ∷ t₃ → project ts ≡ bad 30
    unfolding project
    project_over t t₃ d = rw (e₁, e₂, d)

    pub project_good : t₂ ≡ [] → project ts ≡ good (record { capacities = o.capacities; rows = rs }) []
    unfolding project
    project_good d = rw (e₁, e₂, d)
