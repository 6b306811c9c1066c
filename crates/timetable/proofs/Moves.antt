-- What the defined search and a move give to those who look for them: the time found is one at which a rule applies, that time is small, windows moved
-- within the limit are good, and those that a rule moved and did not close are long enough again.
use Prim.Native.Nat.{ℕ, zero, suc, ◌+◌, ◌≤◌, ◌<◌}
use native.Mathlib.Omega.{arith}
use mathlib.Core.Path.{◌≡◌, refl, subst}
use mathlib.Core.Bool.{false}
use mathlib.Core.List.{List}
use mathlib.Core.Option.{some}
use lib.ListN.{length-set}
use Rattle.lists.specs.Lists.{◌!◌}
use Rattle.lists.proofs.Lists.{set_any}
use Rattle.narrowing.specs.Windows.{Win, Side, early, late, number, Long, closes, moved, side_of}
use Rattle.narrowing.specs.Search as search
use Rattle.narrowing.proofs.Moves.{long_after}
use Rattle.joblist.specs.Limits.{jobs, most_time}
use Rattle.timetable.specs.Time.{Jobs, Applies, bound}
use Rattle.timetable.specs.Search.{best}
use Rattle.timetable.specs.Table.{Call, call, jobs_of, Good, Workable}
use Rattle.timetable.proofs.Law.{searches}

-- the number of a side from its number
pub number_of_side : (k : ℕ) → k ≤ 1 → number (side_of k) ≡ k
number_of_side zero h = refl
number_of_side (suc k) h = omega arith

-- ---- the search

module _ (c : Call) (w : Workable c) (j : ℕ) (s : Side) (b : j < jobs c.win) where
  best-is : search.Offered (Applies (jobs_of c) c.win j s) (bound s) (best (jobs_of c) c.win j s)
  best-is = (searches (jobs_of c)).best-is c.win j s w.long b

  -- the time found is one at which the rule applies
  pub best_applies : (t : ℕ) → best (jobs_of c) c.win j s ≡ some t → Applies (jobs_of c) c.win j s (bound s t)
  best_applies t h = subst (search.Offered (Applies (jobs_of c) c.win j s) (bound s)) h best-is

-- ---- a move

pub moved_size : (W : Win) (j : ℕ) (s : Side) (b : ℕ) → jobs (moved W j s b) ≡ jobs W
moved_size W j early b = length-set W.e j b
moved_size W j late b = refl

-- a rule's time lies before the job's latest end
pub time_before : (J : Jobs) (W : Win) (j : ℕ) (s : Side) (t : ℕ) → W.e ! j + J.p ! j ≤ W.l ! j → Applies J W j s (bound s t) → t < W.l ! j
time_before J W j early t h a = omega (arith, a.to)
time_before J W j late t h a = a.to

module _ (W : Win) (p r : List ℕ) (cap : ℕ) (log : List ℕ) where
  -- windows whose bound moved to a time within the limit are good
  pub moved_good : Good (call W p r cap log) → (j : ℕ) (s : Side) (d : ℕ) → d ≤ most_time → (after : List ℕ) → Good (call (moved W j s d) p r cap after)
  moved_good g j early d m after = record {
    sized = simp length-set g.sized;
    few = simp length-set g.few;
    within = (λ k. set_any (λ (x : ℕ). x ≤ most_time) W.e j d k (λ q. m) (g.within.0 k), g.within.1);
    beside = g.beside;
  }
  moved_good g j late d m after = record {
    sized = simp length-set g.sized;
    few = g.few;
    within = (g.within.0, (λ k. set_any (λ (x : ℕ). x ≤ most_time) W.l j d k (λ q. m) (g.within.1.0 k), g.within.1.1));
    beside = g.beside;
  }

  module _ (w : Workable (call W p r cap log)) where
    -- a rule's time is small
    pub time_small : (j : ℕ) (s : Side) (t : ℕ) → j < jobs W → Applies (jobs_of (call W p r cap log)) W j s (bound s t) → t < most_time
    unfolding Long
    time_small j s t b a = omega (arith, time_before (jobs_of (call W p r cap log)) W j s t (w.long j b) a, w.good.within.1.0 j)

    bound_small : (s : Side) (t : ℕ) → t < most_time → bound s t ≤ most_time
    bound_small early t h = h
    bound_small late t h = omega arith

    moved_long : (j : ℕ) (s : Side) (d : ℕ) → closes p (moved W j s d) j ≡ false → Long (jobs (moved W j s d)) p (moved W j s d)
    moved_long j early d h = simp length-set (long_after (jobs W) p W j early d w.long h)
    moved_long j late d h = long_after (jobs W) p W j late d w.long h

    -- after a rule's move that closed nothing the work can go on, whatever the log
    pub workable_after : (j : ℕ) (s : Side) (t : ℕ) → j < jobs W → Applies (jobs_of (call W p r cap log)) W j s (bound s t)
        → closes p (moved W j s (bound s t)) j ≡ false → (after : List ℕ) → Workable (call (moved W j s (bound s t)) p r cap after)
    workable_after j s t b a h after =
        record { good = moved_good w.good j s (bound s t) (bound_small s t (time_small j s t b a)) after; long = moved_long j s (bound s t) h }
