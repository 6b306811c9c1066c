-- A project of rows within their limits is within its limits.
use Prim.Native.Nat.{ℕ, zero, suc, ◌+◌, ◌≤◌, ◌<◌}
use native.Mathlib.Omega.{arith}
use mathlib.Core.Path.{◌≡◌}
use mathlib.Core.List.{List, [], ◌∷◌, ◌++◌}
use mathlib.Core.Logic.{inl, inr}
use lib.ListN.{length}
use Rattle.lists.specs.Lists.{◌!◌, Every}
use Rattle.joblist.specs.Limits.{most_time, most_demand, most_jobs}
use Rattle.chains.specs.Paths.{Pair, Precedes, Below}
use Rattle.texts.proofs.Readings.{each_within}
use Rattle.projects.specs.Projects.{Row, tagged, pairs_from, durations, demands_on, WithinLimits}
use Rattle.rowheads.proofs.Takes.{Limited}

durations_limited : (n : ℕ) (rs : List Row) → Every (Limited n) rs → (j : ℕ) → durations rs ! j ≤ most_time
durations_limited n [] h j = omega arith
durations_limited n (r ∷ rs) h zero = h.0.duration
durations_limited n (r ∷ rs) h (suc j) = durations_limited n rs h.1 j

demands_limited : (n resource : ℕ) (rs : List Row) → Every (Limited n) rs → (j : ℕ) → demands_on resource rs ! j ≤ most_demand
demands_limited n resource [] h j = omega arith
demands_limited n resource (r ∷ rs) h zero = each_within most_demand r.demands h.0.demands resource
demands_limited n resource (r ∷ rs) h (suc j) = demands_limited n resource rs h.1 j

-- the pairs of rows numbered from j on: jobs among them, successors among the n jobs
tagged_range : (n j : ℕ) (ss : List ℕ) (ps : List Pair) → Every (λ v. v < n) ss → j < n → Below n (Precedes ps) → Below n (Precedes (tagged j ss ++ ps))
tagged_range n j [] ps h b f a c r = f a c r
tagged_range n j (s ∷ ss) ps h b f a c (inl e) = (rw (← e.0) b, rw (← e.1) h.0)
tagged_range n j (s ∷ ss) ps h b f a c (inr r) = tagged_range n j ss ps h.1 b f a c r

pairs_range : (n j : ℕ) (rs : List Row) → Every (Limited n) rs → j + length rs ≤ n → Below n (Precedes (pairs_from j rs))
unfolding pairs_from
pairs_range n j [] h b = λ a c r. absurd r
pairs_range n j (r ∷ rs) h b = tagged_range n j r.successors (pairs_from (suc j) rs) h.0.successors (omega arith) (pairs_range n (suc j) rs h.1 (omega arith))

-- a project of rows within their limits
pub rows_within : (n : ℕ) (caps : List ℕ) (rs : List Row) → n ≤ most_jobs → ((k : ℕ) → caps ! k ≤ most_demand) → length rs ≡ n → Every (Limited n) rs
    → WithinLimits (record { capacities = caps; rows = rs })
rows_within n caps rs few low l h = record {
  few = omega arith;
  capacities = low;
  durations = durations_limited n rs h;
  demands = λ resource. demands_limited n resource rs h;
  range = rw l (pairs_range n 0 rs h (omega arith));
}
