-- Projects that the Patterson layout can say (document 01, 'Library layouts'): within its limits, with as many demands as capacities in each row.
use Prim.Native.Nat.{ℕ, ◌≤◌, ◌<◌}
use mathlib.Core.Path.{◌≡◌}
use lib.ListN.{length}
use Rattle.lists.specs.Lists.{Every}
use Rattle.joblist.specs.Limits.{most_time, most_demand, most_jobs, most_resources}
use Rattle.projects.specs.Projects.{Row, Project}

-- a job of n jobs on k resources
pub record WritableRow (n k : ℕ) (r : Row) : Type 0 where
  pub duration : r.duration ≤ most_time
  pub demand_each : length r.demands ≡ k
  pub demands : Every (λ x. x ≤ most_demand) r.demands
  pub few : length r.successors ≤ n
  pub successors : Every (λ s. s < n) r.successors

pub record Writable (x : Project) : Type 0 where
  pub jobs : length x.rows ≤ most_jobs
  pub resources : length x.capacities ≤ most_resources
  pub capacities : Every (λ c. c ≤ most_demand) x.capacities
  pub rows : Every (WritableRow (length x.rows) (length x.capacities)) x.rows
