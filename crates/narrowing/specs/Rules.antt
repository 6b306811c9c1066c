-- What narrowing by rules promises, over any rules. Nothing here knows an order of work, a log or a search.
use Rattle.std.specs.Prelude.{ℕ, ◌<◌, List, ◌⊎◌}
use Rattle.narrowing.specs.Windows.{Win, Side, Long, Inside, Tighter}

-- a family of rules: `G W j s b` says that on the windows W a rule moves job j's side s to the bound b
abbrev pub Family : Type 1
Family = Win → ℕ → Side → ℕ → Type 0

-- two families together
abbrev pub Either : Family → Family → Family
Either G H W j s b = G W j s b ⊎ H W j s b

-- a family for each number below q
abbrev pub Some : ℕ → (ℕ → Family) → Family
Some q G W j s b = (k : ℕ) × (k < q) × G k W j s b

-- no rule applies to any of the n jobs
unfoldable pub Stable : ℕ → Family → Win → Type 0
Stable n G W = (j : ℕ) (s : Side) (b : ℕ) → j < n → G W j s b → ⊥

-- all that is asked of rules
pub record Lawful (n : ℕ) (G : Family) : Type 0 where
  -- a move tightens
  pub tighter : (W : Win) (j : ℕ) (s : Side) (b : ℕ) → j < n → G W j s b → Tighter W j s b
  -- a rule that applies on W applies on all windows inside W whose bound is not as tight yet
  pub again : (U W : Win) (j : ℕ) (s : Side) (b : ℕ) → Inside n U W → j < n → G W j s b → Tighter U j s b → (c : ℕ) × G U j s c

-- windows inside W, each long enough for its job, to which no rule applies
pub record Candidate (n : ℕ) (p : List ℕ) (G : Family) (W U : Win) : Type 0 where
  pub inside : Inside n U W
  pub stable : Stable n G U
  pub long : Long n p U

-- the candidate that contains all the others
pub record Largest (n : ℕ) (p : List ℕ) (G : Family) (W U : Win) : Type 0 where
  pub one : Candidate n p G W U
  pub holds : (X : Win) → Candidate n p G W X → Inside n X U

-- there is no candidate
abbrev pub NoCandidate : ℕ → List ℕ → Family → Win → Type 0
NoCandidate n p G W = (X : Win) → Candidate n p G W X → ⊥

-- a step: U lies inside W and has lost no candidate
pub record Step (n : ℕ) (p : List ℕ) (G : Family) (W U : Win) : Type 0 where
  pub inside : Inside n U W
  pub kept : (X : Win) → Candidate n p G W X → Inside n X U

-- steps one after the other, in any order
pub data Steps (n : ℕ) (p : List ℕ) (G : Family) : Win → Win → Type 0 where
  here : {W : Win} → Steps n p G W W
  next : {W U X : Win} → Step n p G W U → Steps n p G U X → Steps n p G W X
