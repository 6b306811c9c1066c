-- The load of all jobs at a time, and two lists that keep it.
use Rattle.std.specs.Prelude.{ℕ, ◌+◌, ◌*◌, ◌<◌, ◌≡◌, List, length}
use Rattle.lists.specs.Sets.{total_of}
use Rattle.narrowing.specs.Windows.{Win}
use Rattle.joblist.specs.Limits.{most_jobs, jobs}
use Rattle.timetable.specs.Time.{sure}
use Rattle.profile.specs.declared.kept.Outline.{Outline}
use Rattle.profile.specs.Keeps.{Keeps}

-- the demands of the jobs below m whose sure part holds t
unfoldable pub full_below : List ℕ → List ℕ → Win → ℕ → ℕ → ℕ
unfolding total_of sure
full_below p r W m t = total_of m r (λ k. sure p W k t)

-- of all jobs
abbrev pub full_load : List ℕ → List ℕ → Win → ℕ → ℕ
full_load p r W = full_below p r W (jobs W)

-- a list long enough for the points of any jobs: two for each, one at 0, and `behind_all`
abbrev pub Spacious : List ℕ → Type 0
Spacious ts = 2 * most_jobs + 1 < length ts

-- the lists keep the load of the windows W, and are long enough
pub record Loaded (W : Win) (p r ts ld : List ℕ) (k : Outline) : Type 0 where
  pub keeps : Keeps (full_load p r W) ts ld k
  pub room : Spacious ts

-- and as long as they were
pub record LoadedAs (before : List ℕ) (W : Win) (p r ts ld : List ℕ) (k : Outline) : Type 0 where
  pub size : length ts ≡ length before
  pub loaded : Loaded W p r ts ld k
