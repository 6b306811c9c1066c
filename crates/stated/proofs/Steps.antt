-- The test of code 25 as the code makes it: the moved job's own fact, then every member's.
use Prim.Native.Nat.{ℕ, ◌*◌}
use mathlib.Core.Path.{◌≡◌}
use mathlib.Core.List.{List, []}
use lib.ListN.{length}
use Rattle.lists.specs.Tests.{both, where?, every}
use Rattle.narrowing.specs.Windows.{Win}
use Rattle.members.specs.Members.{has}
use Rattle.journal.specs.Journal.{set_of_record, job_of, time_of}
use Rattle.timetable.specs.Time.{sure}
use Rattle.codes.specs.Facts.{side}
use Rattle.codes.specs.Codes.{own_true, stated_true}
use Rattle.exam.specs.Lent.{jobs_in}

pub stated_is : (p : List ℕ) (W : Win) (x s : List ℕ) → s ≡ set_of_record x
    → stated_true (jobs_in 0 p [] 0) W x
    ≡ both (own_true p W (job_of x) (side x) (time_of x)) (every (λ k. where? (has s k) (sure p W k (time_of x))) (32 * length s))
unfolding stated_true
stated_is p W x s is = rw is
