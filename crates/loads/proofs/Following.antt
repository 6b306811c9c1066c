-- The load followed after a move: the job's sure part is longer by one stretch at the moved end, the load of the others is as it was, and so the load of the
-- windows before the move, raised on that stretch, is the load of the windows.
use Prim.Native.Nat.{ℕ, ◌+◌, ◌-◌, ◌≤◌, ◌<◌}
use native.Mathlib.Omega.{arith}
use native.Mathlib.Decide.{dec_lt}
use mathlib.Core.Path.{◌≡◌, refl, sym}
use mathlib.Core.List.{List}
use lib.ListN.{length, length-set}
use lib.Seq.{get_or-set_same}
use Rattle.lists.specs.Lists.{◌!◌}
use Rattle.lists.specs.Tests.{between, only}
use Rattle.lists.proofs.Tests.{counts_empty, counts_cut}
use Rattle.narrowing.specs.Windows.{win, Side, early, late, moved}
use Rattle.joblist.specs.Limits.{jobs, most_time}
use Rattle.timetable.specs.Time.{Jobs, load}
use Rattle.timetable.specs.Table.{jobs_of, Workable}
use Rattle.timetable.proofs.Loads.{load_moved}
use Rattle.crowding.specs.Asked.{asked}
use Rattle.timetable.proofs.Moves.{moved_size}
use Rattle.timetable.proofs.Good.{durations_sized, ends_sized, demand_most}
use Rattle.profile.specs.declared.kept.Outline.{Outline}
use Rattle.minmax.specs.MinMax.{IsLesser, IsGreater}
use Rattle.profile.specs.Raises.{raised, most_level}
use Rattle.profile.specs.Keeps.{Growable, Grows}
use Rattle.profile.proofs.Keeping.{keeps_same, keeps_low}
use Rattle.loads.specs.Loads.{full_load, Loaded, LoadedAs}
use Rattle.loads.proofs.Full.{full_most, load_full}

-- what a stretch counts at t
abbrev counts : ℕ → ℕ → ℕ → ℕ → ℕ
counts s f t r = only (between s f t) r

-- a part that ends at f where it ended at a, and one that begins at s where it began at a: what it was and what it has gained
later : (s a f lo t r : ℕ) → a ≤ f → IsGreater s a lo → counts s a t r + counts lo f t r ≡ counts s f t r
later s a f lo t r h m =
    elim (dec_lt s a) [
      | yes d ↦ rw (m.2 d) (counts_cut s a f t r (omega arith) h)
      | no d ↦ rw (m.3 (omega arith)) (omega (arith, counts_empty s a t r (omega arith)))
    ]

sooner : (a s f hi t r : ℕ) → s ≤ a → IsLesser a f hi → counts a f t r + counts s hi t r ≡ counts s f t r
sooner a s f hi t r h m =
    elim (dec_lt a f) [
      | yes d ↦ rw (m.2 d) (omega (arith, counts_cut s a f t r h (omega arith)))
      | no d ↦ rw (m.3 (omega arith)) (omega (arith, counts_empty a f t r (omega arith)))
    ]

module _ {e l p r : List ℕ} (w : Workable (asked e l p r 0)) (j : ℕ) (d : j < length p) where
  abbrev J : Jobs
  J = jobs_of (asked e l p r 0)

  listed : j < length e
  listed = omega (arith, durations_sized w.good)

  now_is : (t : ℕ) → load J (win e l) j t + counts (l ! j - p ! j) (e ! j + p ! j) t (r ! j) ≡ full_load p r (win e l) t
  now_is t = load_full J (win e l) j t refl listed

  -- side 0 moved from a, side 1 moved from a
  early_was : (a t : ℕ) → load J (win e l) j t + counts (l ! j - p ! j) (a + p ! j) t (r ! j) ≡ full_load p r (moved (win e l) j early a) t
  early_was a t =
      let z = load_full J (moved (win e l) j early a) j t (sym (length-set e j a)) listed in
      rw (load_moved J (win e l) j early a t, get_or-set_same e j a 0 listed) at z

  late_was : (a t : ℕ) → load J (win e l) j t + counts (a - p ! j) (e ! j + p ! j) t (r ! j) ≡ full_load p r (moved (win e l) j late a) t
  late_was a t =
      let z = load_full J (moved (win e l) j late a) j t refl listed in
      rw (load_moved J (win e l) j late a t, get_or-set_same l j a 0 (omega (arith, listed, ends_sized w.good))) at z

  module _ (s : Side) (a : ℕ) {ts ld : List ℕ} {x : Outline} (L : Loaded (moved (win e l) j s a) p r ts ld x) where
    pub follow_asks : (hi : ℕ) → x.m + 2 < length ts → hi ≤ most_time → Growable ts ld x hi (r ! j)
    follow_asks hi g h =
        record {
          points = L.keeps.points;
          room = g;
          near = omega arith;
          low = keeps_low L.keeps most_level
              (λ t. omega (arith, full_most p r (moved (win e l) j s a) (demand_most w.good) (jobs (moved (win e l) j s a)) t, moved_size (win e l) j s a, w.good.few));
          small = omega (arith, demand_most w.good j);
        }

    followed : {lo hi : ℕ} {us ls : List ℕ} {y : Outline} → Grows ts ld x lo hi (r ! j) us ls y
        → ((t : ℕ) → raised (full_load p r (moved (win e l) j s a)) lo hi (r ! j) t ≡ full_load p r (win e l) t) → LoadedAs ts (win e l) p r us ls y
    followed G h =
        record {
          size = G.size;
          loaded = record { keeps = keeps_same (G.keeps (full_load p r (moved (win e l) j s a)) L.keeps) (full_load p r (win e l)) h; room = omega (arith, G.size, L.room) };
        }

  module _ (a : ℕ) {ts ld us ls : List ℕ} {x y : Outline} where
    pub followed_early : Loaded (moved (win e l) j early a) p r ts ld x → a ≤ e ! j → (lo : ℕ) → IsGreater (l ! j - p ! j) (a + p ! j) lo
        → Grows ts ld x lo (e ! j + p ! j) (r ! j) us ls y → LoadedAs ts (win e l) p r us ls y
    followed_early L h lo m G =
        followed early a L G
        (λ t. omega (arith, early_was a t, now_is t, later (l ! j - p ! j) (a + p ! j) (e ! j + p ! j) lo t (r ! j) (omega arith) m))

    pub followed_late : Loaded (moved (win e l) j late a) p r ts ld x → l ! j ≤ a → (hi : ℕ) → IsLesser (a - p ! j) (e ! j + p ! j) hi
        → Grows ts ld x (l ! j - p ! j) hi (r ! j) us ls y → LoadedAs ts (win e l) p r us ls y
    followed_late L h hi m G =
        followed late a L G
        (λ t. omega (arith, late_was a t, now_is t, sooner (a - p ! j) (l ! j - p ! j) (e ! j + p ! j) hi t (r ! j) (omega arith) m))
