-- The load, one step at a time, as the code takes it: with one job more.
use Prim.Native.Nat.{ℕ, zero, suc, ◌+◌, ◌*◌, ◌≤◌}
use native.Mathlib.Omega.{arith}
use native.Mathlib.Numerals.{add-one}
use mathlib.Core.Path.{◌≡◌, refl}
use mathlib.Core.Bool.{true, false, not}
use mathlib.Core.List.{List, [], ◌∷◌}
use lib.Dec.{leb, ltb, eqb}
use lib.ListN.{length}
use borrow.Author.Tests.{eq-eqb, ne_eqb}
use Rattle.lists.specs.Lists.{◌!◌}
use Rattle.lists.specs.Tests.{both, only}
use Rattle.lists.specs.Sums.{total}
use Rattle.lists.specs.Sets.{total_of}
use Rattle.lists.proofs.Sets.{total_of_limit}
use Rattle.lists.proofs.Sums.{total-zero, total_suc}
use Rattle.narrowing.specs.Windows.{Win, win}
use Rattle.joblist.specs.Limits.{most_demand, most_jobs}
use Rattle.timetable.specs.Time.{Jobs, sure, load}
use Rattle.timetable.specs.Table.{jobs_of, Good}
use Rattle.crowding.specs.Asked.{asked, load_of}
use Rattle.timetable.proofs.Good.{demand_most}

-- ---- the load

module _ (J : Jobs) (W : Win) (j t : ℕ) where
  -- the load of the jobs below m
  unfoldable pub load_below : ℕ → ℕ
  unfolding total sure
  load_below m = total (λ k. only (both (not (eqb k j)) (sure J.p W k t)) (J.r ! k)) m

  pub load_zero : load_below 0 ≡ 0
  unfolding load_below
  load_zero = rw total-zero

  load_more : (k : ℕ) → load_below (k + 1) ≡ load_below k + only (both (not (eqb k j)) (sure J.p W k t)) (J.r ! k)
  unfolding load_below
  load_more k = rw add-one (total_suc _ k)

  -- another job whose sure part holds t adds its demand, and the others add nothing
  pub load_with : (k : ℕ) → (k ≡ j → ⊥) → both (leb (W.l ! k) (t + J.p ! k)) (ltb t (W.e ! k + J.p ! k)) ≡ true → load_below (k + 1) ≡ load_below k + J.r ! k
  unfolding sure
  load_with k d h = rw (load_more k, ne_eqb k j d, h)

  pub load_own : (k : ℕ) → k ≡ j → load_below (k + 1) ≡ load_below k
  load_own k h = rw (load_more k, eq-eqb k j h) (omega arith)

  pub load_apart : (k : ℕ) → (k ≡ j → ⊥) → both (leb (W.l ! k) (t + J.p ! k)) (ltb t (W.e ! k + J.p ! k)) ≡ false → load_below (k + 1) ≡ load_below k
  unfolding sure
  load_apart k d h = rw (load_more k, ne_eqb k j d, h) (omega arith)

  pub load_all : load_below J.n ≡ load J W j t
  unfolding load_below load
  load_all = refl

  -- each job adds its demand at most
  load_most : ((k : ℕ) → J.r ! k ≤ most_demand) → (m : ℕ) → load_below m ≤ most_demand * m
  unfolding load_below total_of
  load_most h m = omega (arith, total_of_limit m J.r (λ k. both (not (eqb k j)) (sure J.p W k t)) most_demand h)

-- so no sum of a good list's demands is too large
pub load_fits : {e l p r : List ℕ} {cap : ℕ} → Good (asked e l p r cap) → (j t m : ℕ) → m ≤ length e
    → load_below (jobs_of (asked e l p r cap)) (win e l) j t m ≤ most_demand * most_jobs
load_fits {e} {l} {p} {r} {cap} g j t m h = omega (arith, load_most (jobs_of (asked e l p r cap)) (win e l) j t (demand_most g) m, g.few)

pub load_small : {e l p r : List ℕ} {cap : ℕ} → Good (asked e l p r cap) → (j t : ℕ) → load_of (asked e l p r cap) j t ≤ most_demand * most_jobs
load_small {e} {l} {p} {r} {cap} g j t = omega (arith, load_all (jobs_of (asked e l p r cap)) (win e l) j t, load_fits g j t (length e) (omega arith))

-- the capacity has no part in a load
pub good_cap : (e l p r : List ℕ) (cap : ℕ) → Good (asked e l p r cap) → Good (asked e l p r 0)
good_cap e l p r cap g = record { sized = g.sized; few = g.few; within = g.within; beside = (none_above, tt) }
  where
    none_above : (k : ℕ) → (0 ∷ []) ! k ≤ most_demand
    none_above zero = omega arith
    none_above (suc k) = omega arith
