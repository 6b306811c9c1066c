-- The sweep over the jobs by rising latest end, as the code does it: what it takes, when a latest end is tested, a job put in, a leaf reached.
use Rattle.std.specs.Prelude.{ℕ, ◌+◌, ◌-◌, ◌≤◌, ◌<◌, ◌≡◌, Bool, not, List, ltb, eqb, ℤ, pos, ◌+ℤ◌, length, set}
use Rattle.std.specs.Int.Signed.{lt_z}
use Rattle.joblist.specs.Limits.{most_jobs}
use Rattle.narrowing.specs.Windows.{win}
use Rattle.lists.specs.Lists.{◌!◌}
use Rattle.lists.specs.Tests.{both}
use Rattle.lists.specs.Orders.{rank, Ordered}
use Rattle.placing.specs.Order.{Placed}
use Rattle.overloads.specs.Promise.{Good}
use Rattle.theta.specs.Theta.{Climbed}

-- place k of the order o has a job, and one of the latest end b
abbrev pub tied : ℕ → List ℕ → List ℕ → ℕ → ℕ → Bool
tied n l o k b = both (ltb k n) (eqb (l ! (o ! k)) b)

-- place k has no job of the latest end b, so that all of them are in, and the root's completion exceeds b
abbrev pub due : ℕ → List ℕ → List ℕ → ℕ → ℕ → ℤ → Bool
due n l o k b end = both (not (tied n l o k b)) (lt_z (pos b) (end +ℤ pos 0))

-- what the sweep takes: a good list, the places by earliest start, and the jobs by earliest start and by latest end
pub record Sorted (est lct dur place starts stops : List ℕ) : Type 0 where
  pub good : Good (win est lct) dur
  pub placed : Placed est place
  pub by_start : Ordered est (length est) starts
  pub by_stop : Ordered lct (length est) stops
  pub starts_long : length starts ≡ most_jobs
  pub stops_long : length stops ≡ most_jobs

-- the tree with job j in it
abbrev pub Entered : List ℕ → List ℕ → ℕ → List ℕ → List ℤ → List ℕ → List ℤ → Type 0
Entered est dur j sums ends sums' ends' =
    Climbed most_jobs (set sums (most_jobs + rank est (length est) j) (dur ! j)) (set ends (most_jobs + rank est (length est) j) (pos (est ! j + dur ! j))) sums' ends'

-- node v is the leaf of a place that has a job
pub record LeafTaken (est starts : List ℕ) (v : ℕ) : Type 0 where
  pub leaf : most_jobs ≤ v
  pub place : v - most_jobs < most_jobs
  pub job : starts ! (v - most_jobs) < length est
