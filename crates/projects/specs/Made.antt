-- The project of one resource that lists say: its capacity, the durations, the demands and the precedence pairs (document 02, Item 13).
use Rattle.std.specs.Prelude.{ℕ, suc, cond, List, [], ◌∷◌, eqb}
use Rattle.chains.specs.Paths.{Pair}
use Rattle.projects.specs.Projects.{Row, Project}

-- the successors of job j, in the order of the pairs
unfoldable pub successors_of : ℕ → List Pair → List ℕ
successors_of j [] = []
successors_of j (x ∷ ps) = cond (eqb x.job j) (x.successor ∷ successors_of j ps) (successors_of j ps)

-- the jobs from number j on, by their durations and demands
unfoldable pub rows_from : ℕ → List ℕ → List ℕ → List Pair → List Row
unfolding successors_of
rows_from j [] qs ps = []
rows_from j (d ∷ ds) [] ps = []
rows_from j (d ∷ ds) (q ∷ qs) ps = record { duration = d; demands = q ∷ []; successors = successors_of j ps } ∷ rows_from (suc j) ds qs ps

-- the project
abbrev pub made : ℕ → List ℕ → List ℕ → List Pair → Project
made cap durs dems ps = record { capacities = cap ∷ []; rows = rows_from 0 durs dems ps }
