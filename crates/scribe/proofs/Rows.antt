-- The rows that are made of lists give back the durations, the demands and the pairs, and are within the limits of the layout where the lists are.
use Prim.Native.Nat.{ℕ, suc, ◌+◌, ◌≤◌, ◌<◌}
use native.Mathlib.Omega.{arith}
use mathlib.Core.Path.{◌≡◌, refl, sym, ap, ◌∙◌}
use mathlib.Core.Bool.{Bool, true, false, cond}
use mathlib.Core.List.{List, [], ◌∷◌, ◌++◌}
use mathlib.Core.Logic.{inl, inr}
use lib.Dec.{eqb, leb}
use lib.ListN.{length}
use borrow.Author.Tests.{eqb-true, eqb-false, leb-true, leb-false, ne_eqb, le-leb, lt-leb}
use Rattle.lists.specs.Lists.{Every}
use Rattle.joblist.specs.Limits.{most_time, most_demand, most_jobs}
use Rattle.chains.specs.Paths.{Pair, pair}
use Rattle.chains.specs.Listed.{paired, Rising}
use Rattle.projects.specs.Projects.{tagged, pairs_from, pairs_of, durations, demands_on}
use Rattle.projects.specs.Patterson.{patterson}
use Rattle.texts.specs.Readings.{good}
use Rattle.projects.specs.Form.{project_text}
use Rattle.projects.specs.Made.{successors_of, rows_from, made}
use Rattle.scribe.proofs.Writable.{WritableRow, Writable}
use Rattle.scribe.proofs.Back.{read_back}
use Rattle.lists.proofs.Every.{every_map, Climbs, climb_few}
use Rattle.scribe.proofs.Pairs.{Before, Ups, rising_ups, ups_range}

-- ---- the successors of one job

-- what holds of the pairs of job j holds of its successors
of_every : (Q : Pair → Type 0) (P : ℕ → Type 0) (j : ℕ) → ((x : Pair) → x.job ≡ j → Q x → P x.successor) → (ps : List Pair) → Every Q ps → Every P (successors_of j ps)
unfolding successors_of
of_every Q P j f [] h = tt
of_every Q P j f (x ∷ ps) h = go (eqb x.job j) refl (of_every Q P j f ps h.1)
  where
    go : (t : Bool) → eqb x.job j ≡ t → Every P (successors_of j ps) → Every P (cond t (x.successor ∷ successors_of j ps) (successors_of j ps))
    go true e q = (f x (eqb-true x.job j e) h.0, q)
    go false e q = q

of_climb : (n j : ℕ) (ps : List Pair) → Ups n ps → Climbs (λ s. s) (successors_of j ps)
unfolding successors_of
of_climb n j [] h = tt
of_climb n j (x ∷ ps) h = go (eqb x.job j) refl (of_climb n j ps h.2)
  where
    less : (y : Pair) → x.job ≡ j → y.job ≡ j → Before x y → x.successor < y.successor
    less y p q (inl b) = absurd (omega arith)
    less y p q (inr b) = b.1

    go : (t : Bool) → eqb x.job j ≡ t → Climbs (λ s. s) (successors_of j ps) → Climbs (λ s. s) (cond t (x.successor ∷ successors_of j ps) (successors_of j ps))
    go true e q = (of_every (Before x) (λ s. x.successor < s) j (λ y. less y (eqb-true x.job j e)) ps h.1, q)
    go false e q = q

pub of_below : (n j : ℕ) (ps : List Pair) → Ups n ps → Every (λ s. s < n) (successors_of j ps)
of_below n j ps h = of_every (λ x. (x.job < n) × (x.successor < n)) (λ s. s < n) j (λ x e q. q.1) ps (ups_range n ps h)

-- no more than there are jobs
pub of_few : (n j : ℕ) (ps : List Pair) → Ups n ps → length (successors_of j ps) ≤ n
of_few n j ps h = climb_few (λ s. s) n (successors_of j ps) (of_climb n j ps h) (of_below n j ps h)

-- ---- the pairs back

-- the pairs of the jobs from j on
from : ℕ → List Pair → List Pair
from j [] = []
from j (x ∷ ps) = cond (leb j x.job) (x ∷ from j ps) (from j ps)

of_none : (j : ℕ) (ps : List Pair) → Every (λ y. j < y.job) ps → successors_of j ps ≡ []
unfolding successors_of
of_none j [] h = refl
of_none j (x ∷ ps) h = rw (ne_eqb x.job j (λ e. omega (arith, h.0))) (of_none j ps h.1)

-- those of j, then those of the jobs behind it
from_split : (n j : ℕ) (ps : List Pair) → Ups n ps → from j ps ≡ tagged j (successors_of j ps) ++ from (suc j) ps
unfolding successors_of from
from_split n j [] h = refl
from_split n j (x ∷ ps) h = go (leb j x.job) (eqb x.job j) (leb (suc j) x.job) refl refl refl (from_split n j ps h.2)
  where
    later : (y : Pair) → j < x.job → Before x y → j < y.job
    later y l (inl b) = omega arith
    later y l (inr b) = omega arith

    go : (a b d : Bool) → leb j x.job ≡ a → eqb x.job j ≡ b → leb (suc j) x.job ≡ d → from j ps ≡ tagged j (successors_of j ps) ++ from (suc j) ps
        → cond a (x ∷ from j ps) (from j ps) ≡ tagged j (cond b (x.successor ∷ successors_of j ps) (successors_of j ps)) ++ cond d (x ∷ from (suc j) ps) (from (suc j) ps)
    go true true true p q r e = absurd (omega (arith, eqb-true x.job j q, leb-true (suc j) x.job r))
    go true true false p q r e = let z : x ≡ pair j x.successor = rw (← eqb-true x.job j q) in rw e (ap (λ (y : Pair). y ∷ (tagged j (successors_of j ps) ++ from (suc j) ps)) z)
    go true false true p q r e =
        let none = of_none j ps (every_map (Before x) (λ y. j < y.job) (λ y. later y (leb-true (suc j) x.job r)) ps h.1) in
        rw (e, none)
    go true false false p q r e = absurd (eqb-false x.job j q (omega (arith, leb-true j x.job p, leb-false (suc j) x.job r)))
    go false true d p q r e = absurd (omega (arith, leb-false j x.job p, eqb-true x.job j q))
    go false false true p q r e = absurd (omega (arith, leb-false j x.job p, leb-true (suc j) x.job r))
    go false false false p q r e = e

from_all : (ps : List Pair) → from 0 ps ≡ ps
unfolding from
from_all [] = refl
from_all (x ∷ ps) = rw (le-leb 0 x.job (omega arith), from_all ps)

from_none : (n : ℕ) (ps : List Pair) → Ups n ps → from n ps ≡ []
unfolding from
from_none n [] h = refl
from_none n (x ∷ ps) h = rw (lt-leb n x.job h.0.0) (from_none n ps h.2)

rows_pairs : (n j : ℕ) (ds qs : List ℕ) (ps : List Pair) → Ups n ps → length ds ≡ length qs → j + length ds ≡ n → pairs_from j (rows_from j ds qs ps) ≡ from j ps
unfolding pairs_from rows_from
rows_pairs n j [] qs ps h e l = let z : j ≡ n = omega arith in rw z (sym (from_none n ps h))
rows_pairs n j (d ∷ ds) [] ps h e l = absurd (omega arith)
rows_pairs n j (d ∷ ds) (q ∷ qs) ps h e l = rw (rows_pairs n (suc j) ds qs ps h (omega arith) (omega arith)) (sym (from_split n j ps h))

-- ---- durations, demands, and how many rows

pub rows_durations : (j : ℕ) (ds qs : List ℕ) (ps : List Pair) → length ds ≡ length qs → durations (rows_from j ds qs ps) ≡ ds
unfolding rows_from
rows_durations j [] qs ps e = refl
rows_durations j (d ∷ ds) [] ps e = absurd (omega arith)
rows_durations j (d ∷ ds) (q ∷ qs) ps e = ap (λ (xs : List ℕ). d ∷ xs) (rows_durations (suc j) ds qs ps (omega arith))

pub rows_demands : (j : ℕ) (ds qs : List ℕ) (ps : List Pair) → length ds ≡ length qs → demands_on 0 (rows_from j ds qs ps) ≡ qs
unfolding rows_from
rows_demands j [] [] ps e = refl
rows_demands j [] (q ∷ qs) ps e = absurd (omega arith)
rows_demands j (d ∷ ds) [] ps e = absurd (omega arith)
rows_demands j (d ∷ ds) (q ∷ qs) ps e = ap (λ (xs : List ℕ). q ∷ xs) (rows_demands (suc j) ds qs ps (omega arith))

pub rows_length : (j : ℕ) (ds qs : List ℕ) (ps : List Pair) → length ds ≡ length qs → length (rows_from j ds qs ps) ≡ length ds
unfolding rows_from
rows_length j [] qs ps e = refl
rows_length j (d ∷ ds) [] ps e = absurd (omega arith)
rows_length j (d ∷ ds) (q ∷ qs) ps e = ap suc (rows_length (suc j) ds qs ps (omega arith))

rows_writable : (n j : ℕ) (ds qs : List ℕ) (ps : List Pair) → Ups n ps → Every (λ x. x ≤ most_time) ds → Every (λ x. x ≤ most_demand) qs → Every (WritableRow n 1) (rows_from j ds qs ps)
unfolding rows_from
rows_writable n j [] qs ps h a b = tt
rows_writable n j (d ∷ ds) [] ps h a b = tt
rows_writable n j (d ∷ ds) (q ∷ qs) ps h a b =
    (record { duration = a.0; demand_each = refl; demands = (b.0, tt); few = of_few n j ps h; successors = of_below n j ps h }, rows_writable n (suc j) ds qs ps h a.1 b.1)

-- ---- the project that is made

module _ (n cap : ℕ) (durs dems js ss : List ℕ) (h : Rising n js ss) (e : length js ≡ length ss) (a : length durs ≡ n) (b : length dems ≡ n) where
  pub pairs_back : pairs_of (made cap durs dems (paired js ss)) ≡ paired js ss
  pairs_back = rows_pairs n 0 durs dems (paired js ss) (rising_ups n js ss h e) (omega arith) (omega arith) ∙ from_all (paired js ss)

  pub durations_back : durations (made cap durs dems (paired js ss)).rows ≡ durs
  durations_back = rows_durations 0 durs dems (paired js ss) (omega arith)

  pub demands_back : demands_on 0 (made cap durs dems (paired js ss)).rows ≡ dems
  demands_back = rows_demands 0 durs dems (paired js ss) (omega arith)

  pub made_writable : n ≤ most_jobs → cap ≤ most_demand → Every (λ x. x ≤ most_time) durs → Every (λ x. x ≤ most_demand) dems → Writable (made cap durs dems (paired js ss))
  made_writable few c p q =
      let m : length (rows_from 0 durs dems (paired js ss)) ≡ n = rows_length 0 durs dems (paired js ss) (omega arith) ∙ a in
      record {
        jobs = omega (arith, m);
        resources = omega arith;
        capacities = (c, tt);
        rows = rw m (rows_writable n 0 durs dems (paired js ss) (rising_ups n js ss h e) p q);
      }

  -- what the reader gives back of it
  pub made_back : n ≤ most_jobs → cap ≤ most_demand → Every (λ x. x ≤ most_time) durs → Every (λ x. x ≤ most_demand) dems
      → patterson (project_text (made cap durs dems (paired js ss))) ≡ good (made cap durs dems (paired js ss)) []
  made_back few c p q = read_back (made cap durs dems (paired js ss)) (made_writable few c p q)
