-- The same jobs listed in another order (the mission's demand 3): job k of the call d is job π k of the call c, in lists of the same lengths; what lies beyond a
-- list's end counts as 0. The logs may differ.
use Rattle.std.specs.Prelude.{ℕ, ◌≡◌, length}
use Rattle.lists.specs.Permutations.{SameList}
use Rattle.narrowing.specs.Renumbered.{SameWin}
use Rattle.joblist.specs.Limits.{jobs}
use Rattle.timetable.specs.Table.{Call}

pub record SameCall (π : ℕ → ℕ) (c d : Call) : Type 0 where
  pub count : jobs d.win ≡ jobs c.win
  pub ends : length d.win.l ≡ length c.win.l
  pub durations : length d.p ≡ length c.p
  pub draws : length d.r ≡ length c.r
  pub windows : SameWin (jobs c.win) π c.win d.win
  pub lasts : SameList (jobs c.win) π c.p d.p
  pub takes : SameList (jobs c.win) π c.r d.r
  pub supply : d.cap ≡ c.cap
