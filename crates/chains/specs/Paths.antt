-- Precedences, paths along them, chains and cycles (document 02, Item 1, over 002, section 4). R a b says that job a comes before job b; w gives each
-- job's duration.
use Rattle.std.specs.Prelude.{ℕ, ◌+◌, ◌≤◌, ◌<◌, ◌≡◌, Bool, true, false, List, [], ◌∷◌, map, ◌⊎◌}
use Rattle.lists.specs.Lists.{◌!◌}

-- a job and one of its successors
pub record Pair : Type 0 where
  pub job : ℕ
  pub successor : ℕ

-- job a and its successor b
abbrev pub pair : ℕ → ℕ → Pair
pair a b = record { job = a; successor = b }

-- a and b are one of the pairs
abbrev pub Precedes : List Pair → ℕ → ℕ → Type 0
Precedes [] a b = ⊥
Precedes (x ∷ ps) a b = ((x.job ≡ a) × (x.successor ≡ b)) ⊎ Precedes ps a b

-- a and b stand at one of the first `count` places of two lists, jobs and successors
abbrev pub Listed : List ℕ → List ℕ → ℕ → ℕ → ℕ → Type 0
Listed jobs successors count a b = (i : ℕ) × (i < count) × (jobs ! i ≡ a) × (successors ! i ≡ b)

-- a pair, and pairs, taken as they are or the other way round
abbrev pub flip : Bool → Pair → Pair
flip false p = p
flip true p = pair p.successor p.job

abbrev pub flipped : Bool → List Pair → List Pair
flipped back ps = map (flip back) ps

-- R speaks of jobs below n alone
abbrev pub Below : ℕ → (ℕ → ℕ → Type 0) → Type 0
Below n R = (a b : ℕ) → R a b → (a < n) × (b < n)

-- durations in a list, by job
abbrev pub weight : List ℕ → ℕ → ℕ
weight p j = p ! j

-- a path from a to b along R, of any number of steps; of none, it stays at a
pub data Path (R : ℕ → ℕ → Type 0) : ℕ → ℕ → Type 0 where
  here : {a : ℕ} → Path R a a
  on : {a b c : ℕ} → Path R a b → R b c → Path R a c

-- the sum of the durations of a path's jobs, but for the last
abbrev pub length_of : (w : ℕ → ℕ) {R : ℕ → ℕ → Type 0} {a b : ℕ} → Path R a b → ℕ
length_of w here = 0
length_of w (on {b = b} path step) = length_of w path + w b

-- a cycle: a path of one step or more from a job to itself
pub record Cycle (R : ℕ → ℕ → Type 0) : Type 0 where
  pub at : ℕ
  pub last : ℕ
  pub path : Path R at last
  pub back : R last at

-- a chain of jobs that come one after the other and then j: its length is the sum of their durations
pub record Chain (R : ℕ → ℕ → Type 0) (w : ℕ → ℕ) (j L : ℕ) : Type 0 where
  pub from : ℕ
  pub path : Path R from j
  pub long : length_of w path ≡ L

-- L is the length of the longest chain before j
pub record Longest (R : ℕ → ℕ → Type 0) (w : ℕ → ℕ) (j L : ℕ) : Type 0 where
  pub one : Chain R w j L
  pub most : (M : ℕ) → Chain R w j M → M ≤ L

-- R the other way round: a chain before j over this one is a chain of jobs after j
abbrev pub Back : (ℕ → ℕ → Type 0) → ℕ → ℕ → Type 0
Back R a b = R b a

-- some chain that ends with a job below n is longer than h, that job counted
pub record Longer (R : ℕ → ℕ → Type 0) (n : ℕ) (w : ℕ → ℕ) (h : ℕ) : Type 0 where
  pub last : ℕ
  pub job : last < n
  pub before : ℕ
  pub chain : Chain R w last before
  pub over : h < before + w last
