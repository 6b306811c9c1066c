-- What the search answers, by the side: crowded is busy by the load of all jobs, and there is one greatest and one least crowded time.
use Prim.Native.Nat.{ℕ, ◌+◌, ◌-◌, ◌≤◌, ◌<◌}
use native.Mathlib.Omega.{arith}
use mathlib.Core.Path.{◌≡◌, refl, ap}
use mathlib.Core.Bool.{Bool, true, false, not}
use mathlib.Core.List.{List}
use mathlib.Core.Option.{Option, none, some}
use Rattle.std.specs.Prelude.{Some, None}
use lib.ListN.{length}
use Rattle.lists.specs.Lists.{◌!◌}
use Rattle.lists.specs.Tests.{between, only}
use Rattle.lists.specs.Extremes.{LastWith, FirstWith, Greatest, Least}
use Rattle.lists.proofs.Tests.{between_yes}
use Rattle.lists.proofs.Extremes.{greatest-one, least-one, last_as, first_as, last_none, last_some, first-none, first_some}
use Rattle.narrowing.specs.Windows.{win, Side, early, late}
use Rattle.timetable.specs.Time.{Jobs, load, Crowded}
use Rattle.timetable.specs.Search.{best}
use Rattle.timetable.specs.Table.{jobs_of, Workable}
use Rattle.timetable.proofs.Law.{greatest_crowded, least_crowded}
use Rattle.crowding.specs.Asked.{asked}
use Rattle.timetable.proofs.Good.{durations_sized, window_long}
use Rattle.searches.specs.declared.load.Load.{Load}
use Rattle.loads.specs.Loads.{full_load, Loaded}
use Rattle.loads.proofs.Full.{load_full}
use Rattle.windows.specs.Found.{as_option}
use Rattle.searches.specs.Found.{next_time}
use Rattle.searches.specs.Busy.{Busy, DemandIn, LastBusy, FirstBusy}

-- an answer, taken back
pub found_some : (x : Option ℕ) (t : ℕ) → as_option x ≡ Some t → x ≡ some t
found_some none t h = cc
found_some (some u) t h = cc

pub found_none : (x : Option ℕ) → as_option x ≡ None → x ≡ none
found_none none h = refl
found_none (some u) h = cc

module _ (e l p r : List ℕ) (cap j : ℕ) where
  abbrev J : Jobs
  J = jobs_of (asked e l p r cap)

  abbrev s : ℕ
  s = l ! j - p ! j

  abbrev f : ℕ
  f = e ! j + p ! j

  abbrev Is : Side → Option ℕ → Type 0
  Is early x = Greatest (Crowded J (win e l) j) (e ! j) (p ! j) x
  Is late x = Least (Crowded J (win e l) j) s (p ! j) x

  -- what has been found is what the definition finds
  answers : (v : Side) (x : Option ℕ) → Is v x → as_option x ≡ as_option (next_time (asked e l p r cap) j v)
  answers early x h = ap as_option (greatest-one (Crowded J (win e l) j) (e ! j) (p ! j) x (best J (win e l) j early) h (greatest_crowded J (win e l) j))
  answers late x h = ap as_option (least-one (Crowded J (win e l) j) s (p ! j) x (best J (win e l) j late) h (least_crowded J (win e l) j))

  -- nothing is crowded for the job
  pub rests : (v : Side) → ((t : ℕ) → Crowded J (win e l) j t → ⊥) → None ≡ as_option (next_time (asked e l p r cap) j v)
  rests early h = answers early none (λ t i. h t i.has)
  rests late h = answers late none (λ t i. h t i.has)

  module _ (w : Workable (asked e l p r cap)) (d : j < length p) where
    listed : j < length e
    listed = omega (arith, durations_sized w.good)

    others : (t : ℕ) → load J (win e l) j t + only (between s f t) (r ! j) ≡ full_load p r (win e l) t
    others t = load_full J (win e l) j t refl listed

    -- the load has the job's own demand in it in its sure part
    demand_in : DemandIn (full_load p r (win e l)) (r ! j) s f
    demand_in t a b = omega (arith, rw (between_yes s f t a b) at (others t))

    with_own : (b : Bool) (x y z : ℕ) → x + only b y ≡ z → x + y ≡ z + only (not b) y
    with_own true x y z h = omega arith
    with_own false x y z h = omega arith

    same : (t : ℕ) → load J (win e l) j t + r ! j ≡ full_load p r (win e l) t + only (not (between s f t)) (r ! j)
    same t = with_own (between s f t) (load J (win e l) j t) (r ! j) (full_load p r (win e l) t) (others t)

    module _ (hp : p ! j ≡ 0 → ⊥) (hr : r ! j ≡ 0 → ⊥) where
      crowds : (t : ℕ) → Busy (full_load p r (win e l)) cap (r ! j) s f t → Crowded J (win e l) j t
      crowds t b = record { lasts = omega arith; takes = omega arith; over = omega (arith, same t) }

      busies : (t : ℕ) → Crowded J (win e l) j t → Busy (full_load p r (win e l)) cap (r ! j) s f t
      busies t c = omega (arith, c.over, same t)

      module _ (load : Load) (L : Loaded (win e l) p r load.ts.now load.ld.now load.kept) (x : ℕ) where
        module _ (b : LastBusy load cap (r ! j) s f (e ! j) f x) where
          last : LastWith (Crowded J (win e l) j) (e ! j) f x
          last = last_as crowds busies (b (full_load p r (win e l)) L.keeps demand_in)

          pub early_rests : x ≤ e ! j → None ≡ as_option (next_time (asked e l p r cap) j early)
          early_rests h = answers early none (last_none last h)

          pub early_moves : e ! j < x → Some (x - 1) ≡ as_option (next_time (asked e l p r cap) j early)
          early_moves h = answers early (some (x - 1)) (last_some last (x - 1) (omega arith) (omega arith))

        module _ (b : FirstBusy load cap (r ! j) s f s (l ! j) x) where
          stretch : s + p ! j ≡ l ! j
          stretch = omega (arith, window_long w j d)

          first : FirstWith (Crowded J (win e l) j) s (s + p ! j) x
          first = rw stretch (first_as crowds busies (b (full_load p r (win e l)) L.keeps demand_in))

          pub late_rests : l ! j ≤ x → None ≡ as_option (next_time (asked e l p r cap) j late)
          late_rests h = answers late none (first-none first (omega (arith, stretch)))

          pub late_moves : x < l ! j → Some x ≡ as_option (next_time (asked e l p r cap) j late)
          late_moves h = answers late (some x) (first_some first (omega (arith, stretch)))
