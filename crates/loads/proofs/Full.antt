-- The load of all jobs: the load of the others with a job's own demand in its sure part, one job after the other, and how large it gets.
use Prim.Native.Nat.{ℕ, ◌+◌, ◌-◌, ◌*◌, ◌≤◌, ◌<◌}
use native.Mathlib.Omega.{arith}
use native.Mathlib.Numerals.{add-one}
use mathlib.Core.Path.{◌≡◌, refl}
use mathlib.Core.List.{List}
use Rattle.lists.specs.Lists.{◌!◌}
use Rattle.lists.specs.Tests.{between, only}
use Rattle.lists.specs.Sums.{total}
use Rattle.lists.specs.Sets.{total_of}
use Rattle.lists.proofs.Sums.{total_suc, total_others}
use Rattle.lists.proofs.Sets.{total_of_limit}
use Rattle.narrowing.specs.Windows.{Win}
use Rattle.joblist.specs.Limits.{jobs, most_demand}
use Rattle.timetable.specs.Time.{Jobs, sure, load}
use Rattle.timetable.proofs.Loads.{sure_between}
use Rattle.loads.specs.Loads.{full_below, full_load}

-- job k's own demand, where its sure part holds t
abbrev pub own : List ℕ → List ℕ → Win → ℕ → ℕ → ℕ
own p r W k t = only (between (W.l ! k - p ! k) (W.e ! k + p ! k) t) (r ! k)

-- the load of all is the load of the others and the job's own
pub load_full : (J : Jobs) (W : Win) (j t : ℕ) → J.n ≡ jobs W → j < J.n → load J W j t + own J.p J.r W j t ≡ full_load J.p J.r W t
unfolding load full_below total_of
load_full J W j t n b = rw (← sure_between J.p W j t, ← n) (total_others (λ k. sure J.p W k t) (λ k. J.r ! k) j J.n b)

-- with one job more
pub full_more : (p r : List ℕ) (W : Win) (k t : ℕ) → full_below p r W (k + 1) t ≡ full_below p r W k t + own p r W k t
unfolding full_below total_of
full_more p r W k t = rw (add-one, ← sure_between p W k t) (total_suc _ k)

pub full_none : (p r : List ℕ) (W : Win) (t : ℕ) → full_below p r W 0 t ≡ 0
unfolding full_below total_of total
full_none p r W t = refl

pub full_most : (p r : List ℕ) (W : Win) → ((k : ℕ) → r ! k ≤ most_demand) → (m t : ℕ) → full_below p r W m t ≤ most_demand * m
unfolding full_below
full_most p r W h m t = omega (arith, total_of_limit m r (λ k. sure p W k t) most_demand h)
