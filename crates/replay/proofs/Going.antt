-- A replay under way: i records are taken and W are the windows that they leave, and the verdict on all records is that on the rest, from W.
use Prim.Native.Nat.{ℕ, zero, suc, ◌+◌, ◌-◌, ◌≤◌, ◌<◌}
use native.Mathlib.Omega.{arith}
use native.Mathlib.Nat.{sub-zero}
use native.Mathlib.Numerals.{add-one}
use mathlib.Core.Path.{◌≡◌, refl, sym, ap, ◌∙◌}
use mathlib.Core.Bool.{true, false}
use mathlib.Core.List.{List, []}
use lib.ListN.{length}
use lib.Seq.{get_or-set_same}
use borrow.Author.Tests.{ltb-false}
use Rattle.std.specs.Prelude.{Result, Ok, Err}
use Rattle.std.specs.Result.{is_ok}
use Rattle.lists.specs.Lists.{◌!◌}
use Rattle.narrowing.specs.Windows.{Win, Side, early, late, moved, closes}
use Rattle.joblist.specs.Limits.{most_time}
use Rattle.journal.specs.Journal.{job_of, time_of, record_at, records}
use Rattle.timetable.specs.Time.{bound}
use Rattle.timetable.specs.Table.{call, Good}
use Rattle.timetable.proofs.Good.{durations_sized, end_most}
use Rattle.timetable.proofs.Moves.{moved_good}
use Rattle.codes.specs.Facts.{side, InRange}
use Rattle.codes.specs.Codes.{code}
use Rattle.answers.specs.declared.reasons.Code.{Code}
use Rattle.answers.specs.Said.{coded, code_number}
use Rattle.replay.specs.declared.Bad.{Bad}
use Rattle.checks.specs.Replay.{changed, Verdict, holds, clashes, rejected, closing, or_bad, or_closed, replay}
use Rattle.exam.specs.Lent.{jobs_in}
use Rattle.codes.proofs.Codes.{good_record}

pub record Going (p r : List ℕ) (cap : ℕ) (log : List ℕ) (count : ℕ) (from W : Win) (i : ℕ) : Type 0 where
  pub within : i ≤ count
  pub good : Good (call W p r cap [])
  pub so_far : replay (jobs_in (length p) p r cap) from 0 (records log 0 count) ≡ replay (jobs_in (length p) p r cap) W i (records log i (count - i))

pub going_start : (p r : List ℕ) (cap : ℕ) (log : List ℕ) (count : ℕ) (W : Win) → Good (call W p r cap []) → Going p r cap log count W W 0
going_start p r cap log count W g = record { within = omega arith; good = g; so_far = rw (sub-zero count) }

-- ---- a taken record

-- a record's bound is small where it does not close the window
bound_small : (W : Win) (p r : List ℕ) (cap : ℕ) → Good (call W p r cap []) → (j : ℕ) (s : Side) (t : ℕ) → j < length p → t ≤ most_time
    → closes p (moved W j s (bound s t)) j ≡ false → bound s t ≤ most_time
bound_small W p r cap g j early t b m h =
    let z : j < length W.e = omega (arith, durations_sized g) in
    omega (arith, end_most g j, get_or-set_same W.e j (suc t) 0 z, ltb-false (W.l ! j) _ h)
bound_small W p r cap g j late t b m h = m

module _ (p r : List ℕ) (cap : ℕ) (W : Win) (x : List ℕ) (taken : code (jobs_in (length p) p r cap) W x ≡ 0) where
  pub taken_range : InRange (jobs_in (length p) p r cap) x
  taken_range = (good_record (jobs_in (length p) p r cap) W x taken).passes.in_range

  good_changed : Good (call W p r cap []) → closes p (changed W x) (job_of x) ≡ false → Good (call (changed W x) p r cap [])
  unfolding changed
  good_changed g h =
      moved_good W p r cap [] g (job_of x) (side x) (bound (side x) (time_of x))
      (bound_small W p r cap g (job_of x) (side x) (time_of x) taken_range.job taken_range.time h) []

-- ---- what the judge says of a record

pub coded_ok : (r : Result Unit Code) → true ≡ is_ok r → coded r ≡ 0
coded_ok (Ok u) h = refl
coded_ok (Err c) h = cc

pub coded_bad : (i : ℕ) (bad : Bad) (r : Result Unit Code) (P : Code → Type 0) → false ≡ is_ok r → ((c : Code) → r ≡ Err c → P c)
    → ((c : Code) → P c → (bad.place ≡ i) × (bad.code ≡ c)) → (bad.place ≡ i) × (coded r ≡ code_number bad.code)
coded_bad i bad (Ok u) P e m f = absurd (cc)
coded_bad i bad (Err c) P e m f = let q = f c (m c refl) in (q.0, sym (ap code_number q.1))

pub some_code : (c : Code) → code_number c ≡ 0 → ⊥
some_code Code.Closed h = omega arith
some_code Code.Range h = omega arith
some_code Code.Partners h = omega arith
some_code Code.Counted h = omega arith
some_code Code.Exceeds h = omega arith
some_code Code.Stated h = omega arith
some_code Code.Tightens h = omega arith
some_code Code.Lean h = omega arith

-- ---- one record more

module _ {p r : List ℕ} {cap : ℕ} {log : List ℕ} {count : ℕ} {from W : Win} {i : ℕ} (g : Going p r cap log count from W i) where
  abbrev all : Verdict
  all = replay (jobs_in (length p) p r cap) from 0 (records log 0 count)

  pub going_end : count ≤ i → holds W ≡ all
  unfolding replay records
  going_end h = let e : count - i ≡ 0 = omega arith in sym (g.so_far ∙ rw e)

  module _ (x : List ℕ) (shown : x ≡ record_at log i) (b : i < count) where
    -- the next record and the rest
    next : all
        ≡ or_bad i (code (jobs_in (length p) p r cap) W x)
        (or_closed (closes p (changed W x) (job_of x)) (closing (i + 1) (job_of x) (records log (i + 1) (count - (i + 1))))
        (replay (jobs_in (length p) p r cap) (changed W x) (i + 1) (records log (i + 1) (count - (i + 1)))))
    unfolding replay records
    next =
        let e : count - i ≡ suc (count - (i + 1)) = omega arith in
        g.so_far ∙ rw (e, add-one i, shown)

    pub going_bad : (k : ℕ) → (k ≡ 0 → ⊥) → k ≡ code (jobs_in (length p) p r cap) W x → rejected i k ≡ all
    going_bad zero f e = absurd (f refl)
    going_bad (suc k) f e = sym (next ∙ rw (← e))

    module _ (taken : code (jobs_in (length p) p r cap) W x ≡ 0) (U : Win) (is : U ≡ moved W (job_of x) (side x) (bound (side x) (time_of x))) where
      after : U ≡ changed W x
      unfolding changed
      after = is

      pub going_on : closes p U (job_of x) ≡ false → Going p r cap log count from U (i + 1)
      going_on h =
          let q = rw after at h in
          rw after
          record { within = omega arith; good = good_changed p r cap W x taken g.good q; so_far = next ∙ rw (taken, q) }

      -- a closing record is the last, or the one after it is bad
      pub going_last : closes p U (job_of x) ≡ true → count ≤ i + 1 → clashes (job_of x) ≡ all
      unfolding records
      going_last h m =
          let e : count - (i + 1) ≡ 0 = omega arith in
          let q = rw after at h in
          sym (next ∙ rw (taken, q, e))

      pub going_more : closes p U (job_of x) ≡ true → i + 1 < count → rejected (i + 1) 20 ≡ all
      unfolding records
      going_more h m =
          let e : count - (i + 1) ≡ suc (count - (i + 2)) = omega arith in
          let q = rw after at h in
          sym (next ∙ rw (taken, q, e, add-one i))
