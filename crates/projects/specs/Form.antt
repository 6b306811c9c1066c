-- The form in which we write a project (document 01, 'Library layouts'): Patterson's layout with the two counts, the capacities and each job on a
-- line, one space between numbers, a line feed after each line.
use Rattle.std.specs.Prelude.{ℕ, zero, suc, ◌+◌, ◌/◌, ◌%◌, cond, List, [], ◌∷◌, ◌++◌, map, ltb, length}
use Rattle.projects.specs.Projects.{Row, Project}

-- the decimal digits of v, at most m of them; what `let` names is computed only where it is asked for
unfoldable pub decimal_in : ℕ → ℕ → List ℕ
decimal_in zero v = []
decimal_in (suc m) v = let longer = decimal_in m (v / 10) ++ ((48 + v % 10) ∷ []) in cond (ltb v 10) ((48 + v) ∷ []) longer

-- the decimal digits of v, without leading zeros: no more than v and one
unfoldable pub decimal : ℕ → List ℕ
unfolding decimal_in
decimal v = decimal_in (suc v) v

-- numbers on a line: a space between two of them, a line feed behind the last
unfoldable pub line_of : List ℕ → List ℕ
unfolding decimal
line_of [] = 10 ∷ []
line_of (v ∷ []) = decimal v ++ 10 ∷ []
line_of (v ∷ w ∷ vs) = decimal v ++ 32 ∷ line_of (w ∷ vs)

-- the numbers of a job: duration, demands, how many successors, and these numbered from 1
abbrev pub numbers : Row → List ℕ
numbers r = r.duration ∷ (r.demands ++ length r.successors ∷ map suc r.successors)

-- a line for each job
unfoldable pub job_lines : List Row → List ℕ
unfolding line_of
job_lines [] = []
job_lines (r ∷ rs) = line_of (numbers r) ++ job_lines rs

-- the two counts, the capacities, the jobs
unfoldable pub project_text : Project → List ℕ
unfolding line_of job_lines
project_text x = line_of (length x.rows ∷ length x.capacities ∷ []) ++ line_of x.capacities ++ job_lines x.rows
