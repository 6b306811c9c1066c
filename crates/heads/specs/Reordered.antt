-- The same jobs listed in another order (the mission's demand 3): job k of the windows U and the durations q is job π k of W and p, in lists of the same
-- lengths; what lies beyond a list's end counts as 0.
use Rattle.std.specs.Prelude.{ℕ, ◌≡◌, List, length}
use Rattle.lists.specs.Permutations.{SameList}
use Rattle.narrowing.specs.Windows.{Win}
use Rattle.narrowing.specs.Renumbered.{SameWin}
use Rattle.joblist.specs.Limits.{jobs}

pub record SameReads (π : ℕ → ℕ) (W : Win) (p : List ℕ) (U : Win) (q : List ℕ) : Type 0 where
  pub count : jobs U ≡ jobs W
  pub ends : length U.l ≡ length W.l
  pub durations : length q ≡ length p
  pub windows : SameWin (jobs W) π W U
  pub lasts : SameList (jobs W) π p q
