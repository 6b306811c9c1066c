-- An overloaded set leaves no schedule of 01 with every demand 1 and capacity 1: its jobs, each within its window, run from the set's least e to
-- its greatest l for longer than there are times, and at most one of them at each.
use Prim.Native.Nat.{ℕ, ◌≤◌, ◌<◌}
use native.Mathlib.Omega.{arith}
use native.Mathlib.Decide.{dec_le}
use mathlib.Core.Path.{◌≡◌, refl, sym}
use mathlib.Core.Bool.{Bool, true, false}
use mathlib.Core.List.{List, [], ◌∷◌}
use lib.Dec.{leb}
use borrow.Author.Tests.{le-leb}
use Rattle.answers.specs.Said.{Word, Said, said}
use Rattle.joblist.specs.Limits.{jobs}
use Rattle.lists.specs.Lists.{◌!◌}
use Rattle.lists.specs.Tests.{both, only}
use Rattle.lists.specs.Sums.{total}
use Rattle.lists.specs.Sets.{Set, total_of}
use Rattle.lists.proofs.Tests.{both_true, only_le}
use Rattle.lists.proofs.Sums.{total_le, total_cong}
use Rattle.lists.proofs.Differences.{total_zeros}
use Rattle.lists.proofs.Counts.{total_swap, count_from, count_stretch}
use Rattle.narrowing.specs.Windows.{Win}
use Rattle.narrowing.specs.Schedules.{Schedule}
use Rattle.timetable.specs.Time.{Jobs, runs_at, drawn, Fits}
use Rattle.timetable.proofs.Facts.{runs_yes}
use Rattle.overloads.specs.Overload.{Overloaded, window}
use Rattle.overloads.specs.Promise.{Overloads}
use Rattle.overloads.proofs.Pairs.{pair_overloaded}

-- n jobs on a resource of capacity 1
abbrev pub one_by_one : ℕ → List ℕ → List ℕ → Jobs
one_by_one n p r = record { n = n; p = p; r = r; cap = 1 }

module _ (n : ℕ) (W : Win) (p r s : List ℕ) (ones : (k : ℕ) → k < n → r ! k ≡ 1) (S : Schedule n p (Fits (one_by_one n p r)) W s)
    (T : Set) (o : Overloaded n p W T) where
  -- 1 where job k is of the set and runs at t
  busy : ℕ → ℕ → ℕ
  busy k t = only (both (T k) (runs_at p s k t)) 1

  -- at most one at a time, and none before the least e
  busy_once : (t : ℕ) → total (λ k. busy k t) n ≤ only (leb o.from t) 1
  unfolding busy Fits drawn
  busy_once t = go (dec_le o.from t)
    where
      early : (k : ℕ) → k < n → t < o.from → (c : Bool) → both (T k) (runs_at p s k t) ≡ c → only c 1 ≤ 0
      early k b h true e =
          let q = both_true (T k) (runs_at p s k t) e in
          absurd (omega (arith, o.least.least k b q.0, S.from k b, (runs_yes p s k t q.1).from))
      early k b h false e = omega arith

      go : Dec (o.from ≤ t) → total (λ k. busy k t) n ≤ only (leb o.from t) 1
      go (yes h) =
          rw (le-leb o.from t h)
          (omega (
            arith,
            S.fits t,
            total_le (λ k. busy k t) (λ k. only (runs_at p s k t) (r ! k)) n
                (λ k b. rw (ones k b) (only_le (both (T k) (runs_at p s k t)) (runs_at p s k t) 1 (λ q. (both_true (T k) (runs_at p s k t) q).1))),
          ))
      go (no h) = omega (arith, total_zeros n, total_le (λ k. busy k t) (λ k. 0) n (λ k b. early k b (omega arith) (both (T k) (runs_at p s k t)) refl))

  -- each job of the set runs for its duration, all of it before the greatest l
  busy_long : (k : ℕ) → k < n → only (T k) (p ! k) ≡ total (λ t. busy k t) o.upto
  unfolding busy runs_at
  busy_long k b = go (T k) refl
    where
      go : (c : Bool) → T k ≡ c → only c (p ! k) ≡ total (λ t. only (both c (runs_at p s k t)) 1) o.upto
      go true e = sym (count_stretch (s ! k) (p ! k) o.upto (omega (arith, S.to k b, o.greatest.greatest k b e)))
      go false e = sym (total_zeros o.upto)

  pub overloaded_none : ⊥
  unfolding total_of
  overloaded_none =
      let l = o.least in
      omega (
        arith,
        total_cong (λ k. only (T k) (p ! k)) (λ k. total (λ t. busy k t) o.upto) n busy_long,
        total_swap busy n o.upto,
        total_le (λ t. total (λ k. busy k t) n) (λ t. only (leb o.from t) 1) o.upto (λ t b. busy_once t),
        count_from o.from o.upto,
        o.over,
        l.is,
        S.from l.at l.below,
        S.to l.at l.below,
        o.greatest.greatest l.at l.below l.member,
      )

-- so where the check says a pair, 01's schedule with every demand 1 and capacity 1 does not exist
pub pair_none : (W : Win) (p : List ℕ) (a : Said) → Overloads W p a → (x y : ℕ) → a ≡ said Word.overload (x ∷ y ∷ [])
    → (r s : List ℕ) → ((k : ℕ) → k < jobs W → r ! k ≡ 1) → Schedule (jobs W) p (Fits (one_by_one (jobs W) p r)) W s → ⊥
pair_none W p a h x y e r s ones S =
    overloaded_none (jobs W) W p r s ones S (window W x y) (pair_overloaded (jobs W) p W x y ((h.pair x y).0 e).1.pair)
