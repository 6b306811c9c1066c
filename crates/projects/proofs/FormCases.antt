-- Small numbers and a small project, written by the definition and computed. A text stands in the line above its bytes.
use mathlib.Core.Path.{◌≡◌, refl}
use mathlib.Core.List.{[], ◌∷◌}
use Rattle.chains.specs.Listed.{paired}
use Rattle.projects.specs.Form.{decimal, project_text}
use Rattle.projects.specs.Made.{rows_from, made}

-- `0`
pub zero_written : decimal 0 ≡ 48 ∷ []
unfolding decimal
zero_written = refl

-- `7`
pub seven_written : decimal 7 ≡ 55 ∷ []
unfolding decimal
seven_written = refl

-- `9`
pub nine_written : decimal 9 ≡ 57 ∷ []
unfolding decimal
nine_written = refl

-- `10`
pub ten_written : decimal 10 ≡ 49 ∷ 48 ∷ []
unfolding decimal
ten_written = refl

-- `1000000`
pub million_written : decimal 1000000 ≡ 49 ∷ 48 ∷ 48 ∷ 48 ∷ 48 ∷ 48 ∷ 48 ∷ []
unfolding decimal
million_written = refl

-- job 0 before job 1, capacity 5: `2 1\n5\n3 1 1 2\n40 2 0\n`
pub two_jobs_written : project_text (made 5 (3 ∷ 40 ∷ []) (1 ∷ 2 ∷ []) (paired (0 ∷ []) (1 ∷ []))) ≡ 50 ∷ 32 ∷ 49 ∷ 10 ∷ 53 ∷ 10 ∷ 51 ∷ 32 ∷ 49 ∷ 32 ∷ 49 ∷ 32 ∷ 50 ∷ 10 ∷ 52 ∷ 48 ∷ 32 ∷ 50 ∷ 32 ∷ 48 ∷ 10 ∷ []
unfolding project_text rows_from
two_jobs_written = refl

-- job 0 before jobs 1 and 2, and job 2 before job 1: `3 1\n12\n0 0 2 2 3\n7 12 0\n1 3 1 2\n`
pub three_jobs_written : project_text (made 12 (0 ∷ 7 ∷ 1 ∷ []) (0 ∷ 12 ∷ 3 ∷ []) (paired (0 ∷ 0 ∷ 2 ∷ []) (1 ∷ 2 ∷ 1 ∷ []))) ≡ 51 ∷ 32 ∷ 49 ∷ 10 ∷ 49 ∷ 50 ∷ 10 ∷ 48 ∷ 32 ∷ 48 ∷ 32 ∷ 50 ∷ 32 ∷ 50 ∷ 32 ∷ 51 ∷ 10 ∷ 55 ∷ 32 ∷ 49 ∷ 50 ∷ 32 ∷ 48 ∷ 10 ∷ 49 ∷ 32 ∷ 51 ∷ 32 ∷ 49 ∷ 32 ∷ 50 ∷ 10 ∷ []
unfolding project_text rows_from
three_jobs_written = refl

-- no jobs: `0 1\n5\n`
pub no_jobs_written : project_text (made 5 [] [] []) ≡ 48 ∷ 32 ∷ 49 ∷ 10 ∷ 53 ∷ 10 ∷ []
unfolding project_text rows_from
no_jobs_written = refl

-- a project of no resources has an empty line of capacities: `0 0\n\n`
pub no_resources_written : project_text (record { capacities = []; rows = [] }) ≡ 48 ∷ 32 ∷ 48 ∷ 10 ∷ 10 ∷ []
unfolding project_text
no_resources_written = refl
