-- The load built job by job: after k of them the lists keep the load of the jobs below k, in at most 2 k + 1 points.
use Prim.Native.Nat.{ℕ, ◌+◌, ◌-◌, ◌*◌, ◌≤◌, ◌<◌}
use native.Mathlib.Omega.{arith}
use mathlib.Core.Path.{◌≡◌, refl, sym, ◌∙◌}
use mathlib.Core.Bool.{true}
use mathlib.Core.List.{List}
use lib.ListN.{length}
use Rattle.lists.specs.Lists.{◌!◌}
use Rattle.lists.specs.Tests.{between}
use Rattle.lists.proofs.Tests.{only_le}
use Rattle.narrowing.specs.Windows.{win}
use Rattle.joblist.specs.Limits.{most_time}
use Rattle.crowding.specs.Asked.{asked}
use Rattle.timetable.specs.Table.{Workable}
use Rattle.timetable.proofs.Good.{durations_sized, window_within, demand_most}
use Rattle.profile.specs.declared.kept.Outline.{Outline}
use Rattle.profile.specs.Raises.{most_level}
use Rattle.profile.specs.Keeps.{Keeps, Growable, Starts, Grows}
use Rattle.profile.proofs.Keeping.{keeps_same, keeps_low}
use Rattle.loads.specs.Loads.{full_below, Spacious, LoadedAs}
use Rattle.loads.proofs.Full.{full_more, full_none, full_most}

-- the lists keep the load of the jobs below k of a workable list
pub record Building (e l p r before ts ld : List ℕ) (x : Outline) (k : ℕ) : Type 0 where
  pub workable : Workable (asked e l p r 0)
  pub room : Spacious before
  pub size : length ts ≡ length before
  pub upto : k ≤ length e
  pub few : x.m ≤ 2 * k + 1
  pub keeps : Keeps (full_below p r (win e l) k) ts ld x

pub building_start : (e l p r : List ℕ) {before ts ld : List ℕ} {x : Outline} → Workable (asked e l p r 0) → Spacious before → Starts before ts ld x → Building e l p r ts ts ld x 0
building_start e l p r w g S =
    record {
      workable = w;
      room = omega (arith, S.size);
      size = refl;
      upto = omega arith;
      few = omega (arith, S.one);
      keeps = keeps_same S.keeps (full_below p r (win e l) 0) (λ t. sym (full_none p r (win e l) t));
    }

pub building_end : {e l p r before ts ld : List ℕ} {x : Outline} {k : ℕ} → Building e l p r before ts ld x k → (first : List ℕ) → length before ≡ length first → length e ≤ k
    → LoadedAs first (win e l) p r ts ld x
building_end {e} {l} {p} {r} {before} {ts} {ld} {x} {k} B first z h =
    let q : k ≡ length e = omega (arith, B.upto) in
    record { size = B.size ∙ z; loaded = record { keeps = rw q at B.keeps; room = omega (arith, B.size, B.room) } }

module _ {e l p r before ts ld : List ℕ} {x : Outline} {k : ℕ} (B : Building e l p r before ts ld x k) (h : k < length e) where
  -- a job that draws nothing adds nothing
  pub building_pass : r ! k ≤ 0 → Building e l p r before ts ld x (k + 1)
  building_pass z =
      record {
        workable = B.workable;
        room = B.room;
        size = B.size;
        upto = omega arith;
        few = omega (arith, B.few);
        keeps = keeps_same B.keeps (full_below p r (win e l) (k + 1))
            (λ t. omega (arith, full_more p r (win e l) k t, only_le (between (l ! k - p ! k) (e ! k + p ! k) t) true (r ! k) (λ q. refl)));
      }

  -- job k's numbers
  pub ends_within : (e ! k + p ! k ≤ l ! k) × (l ! k ≤ most_time)
  ends_within = window_within B.workable k (omega (arith, durations_sized B.workable.good))

  pub building_asks : Growable ts ld x (e ! k + p ! k) (r ! k)
  building_asks =
      record {
        points = B.keeps.points;
        room = omega (arith, B.few, B.size, B.room, B.workable.good.few);
        near = omega (arith, ends_within);
        low = keeps_low B.keeps most_level (λ t. omega (arith, full_most p r (win e l) (demand_most B.workable.good) k t, B.workable.good.few));
        small = omega (arith, demand_most B.workable.good k);
      }

  pub building_step : {us ls : List ℕ} {y : Outline} → Grows ts ld x (l ! k - p ! k) (e ! k + p ! k) (r ! k) us ls y → Building e l p r before us ls y (k + 1)
  building_step G =
      record {
        workable = B.workable;
        room = B.room;
        size = G.size ∙ B.size;
        upto = omega arith;
        few = omega (arith, G.few, B.few);
        keeps = keeps_same (G.keeps (full_below p r (win e l) k) B.keeps) (full_below p r (win e l) (k + 1)) (λ t. sym (full_more p r (win e l) k t));
      }
