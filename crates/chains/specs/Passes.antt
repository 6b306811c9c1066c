-- The longest chains and the cycles of `Paths`, computed. Each job has a value. A pass over the pairs raises each successor's value to its job's value
-- plus duration, where it is less; as many passes as there are jobs reach the longest chains, unless there is a cycle (proofs/Longest.antt,
-- proofs/Cycles.antt).
use Rattle.std.specs.Prelude.{ℕ, zero, suc, ◌+◌, ◌≤◌, Bool, cond, List, [], ◌∷◌, ltb, set, replicate}
use Rattle.lists.specs.Lists.{◌!◌}
use Rattle.lists.specs.Tests.{every}
use Rattle.chains.specs.Paths.{Pair, Chain}

-- every value is a chain's length
abbrev pub Chained : (ℕ → ℕ → Type 0) → (ℕ → ℕ) → List ℕ → Type 0
Chained R w v = (j : ℕ) → Chain R w j (v ! j)

-- no pair raises a value any more
abbrev pub NoneRaises : (ℕ → ℕ → Type 0) → (ℕ → ℕ) → List ℕ → Type 0
NoneRaises R w v = (a b : ℕ) → R a b → v ! a + w a ≤ v ! b

-- b's value raised to a's value plus duration
unfoldable pub raise : (ℕ → ℕ) → ℕ → ℕ → List ℕ → List ℕ
raise w a b v = cond (ltb (v ! b) (v ! a + w a)) (set v b (v ! a + w a)) v

-- once over the pairs, in their order
unfoldable pub pass : (ℕ → ℕ) → List Pair → List ℕ → List ℕ
unfolding raise
pass w [] v = v
pass w (x ∷ ps) v = pass w ps (raise w x.job x.successor v)

-- so many passes
unfoldable pub passes : (ℕ → ℕ) → List Pair → ℕ → List ℕ → List ℕ
unfolding pass
passes w ps zero v = v
passes w ps (suc m) v = passes w ps m (pass w ps v)

-- the longest chains before the n jobs
unfoldable pub longest : (ℕ → ℕ) → List Pair → ℕ → List ℕ
unfolding passes
longest w ps n = passes w ps n (replicate n 0)

-- no chain has as many steps as there are jobs: then no job comes twice
unfoldable pub acyclic? : List Pair → ℕ → Bool
unfolding longest every
acyclic? ps n = every (λ j. ltb (longest (λ i. 1) ps n ! j) n) n
