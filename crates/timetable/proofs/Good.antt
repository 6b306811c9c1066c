-- The facts of a good list by name; and a window that is long enough.
use Prim.Native.Nat.{ℕ, ◌+◌, ◌≤◌, ◌<◌}
use native.Mathlib.Omega.{arith}
use mathlib.Core.Path.{◌≡◌}
use mathlib.Core.List.{List}
use lib.ListN.{length}
use Rattle.lists.specs.Lists.{◌!◌}
use Rattle.narrowing.specs.Windows.{Win, Long}
use Rattle.joblist.specs.Limits.{jobs, most_time, most_demand, four_lists, supply}
use Rattle.joblist.specs.GoodList.{GoodList}
use Rattle.timetable.specs.Table.{Call, Workable}

module _ {W : Win} {p r : List ℕ} {cap : ℕ} (g : GoodList (jobs W) (four_lists W p r) (supply cap)) where
  pub ends_sized : length W.l ≡ jobs W
  ends_sized = g.sized.1.0

  pub durations_sized : length p ≡ jobs W
  durations_sized = g.sized.1.1.0

  pub demands_sized : length r ≡ jobs W
  demands_sized = g.sized.1.1.1.0

  pub start_most : (k : ℕ) → W.e ! k ≤ most_time
  start_most = g.within.0

  pub end_most : (k : ℕ) → W.l ! k ≤ most_time
  end_most = g.within.1.0

  pub duration_most : (k : ℕ) → p ! k ≤ most_time
  duration_most = g.within.1.1.0

  pub demand_most : (k : ℕ) → r ! k ≤ most_demand
  demand_most = g.within.1.1.1.0

pub window_long : {c : Call} → Workable c → (k : ℕ) → k < length c.p → c.win.e ! k + c.p ! k ≤ c.win.l ! k
unfolding Long
window_long w k b = w.long k (omega (arith, durations_sized w.good))

-- its earliest end, its latest end and the limit in order
pub window_within : {c : Call} → Workable c → (k : ℕ) → k < length c.p → (c.win.e ! k + c.p ! k ≤ c.win.l ! k) × (c.win.l ! k ≤ most_time)
window_within w k b = (window_long w k b, end_most w.good k)
