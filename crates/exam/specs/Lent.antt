-- The lists that the checker's functions are lent, as the jobs and the facts that the definitions speak of.
use Rattle.std.specs.Prelude.{ℕ, ◌≤◌, ◌<◌, ◌≡◌, true, List, [], ◌∷◌, length}
use Rattle.narrowing.specs.Windows.{Win}
use Rattle.joblist.specs.Limits.{most_time, demand_column, jobs, three_lists}
use Rattle.joblist.specs.GoodList.{GoodList}
use Rattle.journal.specs.Journal.{job_of, time_of, is_member}
use Rattle.timetable.specs.Time.{Jobs}

-- n jobs with their durations, demands and the capacity; what a test does not look at stands empty or 0
abbrev pub jobs_in : ℕ → List ℕ → List ℕ → ℕ → Jobs
jobs_in n p r cap = record { n = n; p = p; r = r; cap = cap }

-- windows and durations that passed the tests 1 to 3
abbrev pub Timed : Win → List ℕ → Type 0
Timed W p = GoodList (jobs W) (three_lists W p) []

-- demands that passed the tests 1 to 3
abbrev pub Drawn : List ℕ → Type 0
Drawn r = GoodList (length r) (demand_column r ∷ []) []

-- a record that codes 21 and 22 let through: its job and its members are among n jobs, its time is small
pub record LetThrough (n : ℕ) (x : List ℕ) : Type 0 where
  pub job : job_of x < n
  pub time : time_of x ≤ most_time
  pub members : (k : ℕ) → is_member x k ≡ true → k < n
