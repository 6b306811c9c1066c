-- Records left out of a replay that comes to a clash (document 02, Item 14): where the others are replayed from windows that are the same for the marked jobs,
-- they come to the clash of the same job, as long as each record that is left out moves a job that no record behind it marks.
use Prim.Native.Nat.{ℕ, zero, suc, ◌≤◌}
use native.Mathlib.Omega.{arith}
use mathlib.Core.Path.{◌≡◌, refl, sym}
use mathlib.Core.Bool.{Bool, true, false}
use mathlib.Core.List.{List, [], ◌∷◌}
use mathlib.Core.Logic.{◌↔◌}
use lib.ListN.{length}
use Rattle.narrowing.specs.Windows.{Win, closes}
use Rattle.narrowing.proofs.Moves.{Whole, whole_after}
use Rattle.journal.specs.Journal.{job_of, time_of}
use Rattle.timetable.specs.Time.{Jobs, bound}
use Rattle.codes.specs.Facts.{side, GoodRecord}
use Rattle.codes.proofs.Codes.{good_record, record_good}
use Rattle.verdicts.specs.Replay.{Trial, replay}
use Rattle.checks.specs.Replay.{changed, trial, Verdict, clashes, closing, or_bad, or_closed}
use Rattle.conflicts.specs.Marks.{marked_by}
use Rattle.conflicts.proofs.Marks.{marked_more, marked_members, marked_own}
use Rattle.conflicts.proofs.Agree.{Agree, good_agree, moved_agree, other_agree}

-- ---- a replay that comes to a clash

module _ (T : Trial) (p : List ℕ) (W : Win) (i : ℕ) (x : List ℕ) (xs : List (List ℕ)) (j : ℕ) where
  -- what a good record leaves: its window is closed, or the others follow
  abbrev behind : Verdict
  behind = or_closed (closes p (T.changed W x) (job_of x)) (closing (suc i) (job_of x) xs) (replay T p (T.changed W x) (suc i) xs)

  -- the first record is good
  clash_first : (replay T p W i (x ∷ xs) ≡ clashes j) ↔ ((T.code W x ≡ 0) × (behind ≡ clashes j))
  unfolding replay
  clash_first = (by (T.code W x) behind, λ h. rw h.0 h.1)
    where
      by : (k : ℕ) (v : Verdict) → or_bad i k v ≡ clashes j → (k ≡ 0) × (v ≡ clashes j)
      by zero v h = (refl, h)
      by (suc k) v h = let z : ◌≡◌ {A = ℕ} 0 1 = cc in absurd (omega arith)

-- where a window is closed it is that of the clash, and no record is left, nor are any of those
pub closed_last : (i a k j : ℕ) (xs ys : List (List ℕ)) → length ys ≤ length xs → closing i k xs ≡ clashes j → (closing a k ys ≡ clashes j) × (k ≡ j)
closed_last i a k j [] [] b h = (h, cc)
closed_last i a k j [] (y ∷ ys) b h = absurd (omega arith)
closed_last i a k j (x ∷ xs) ys b h = let z : ◌≡◌ {A = ℕ} 0 1 = cc in absurd (omega arith)

-- ---- one record in front of others

module _ (J : Jobs) (j : ℕ) where
  -- windows that are the same for the jobs that records mark
  abbrev pub Same : List (List ℕ) → Win → Win → Type 0
  Same xs U W = (k : ℕ) → marked_by j xs k ≡ true → Agree U W k

  -- from such windows the records ys come to the clash that xs come to
  abbrev pub Replays : List (List ℕ) → List (List ℕ) → Type 0
  Replays xs ys =
      (i a : ℕ) (W U : Win) → Whole J.n W → Whole J.n U → Same xs U W
      → replay (trial J) J.p W i xs ≡ clashes j → replay (trial J) J.p U a ys ≡ clashes j

  pub none_left : Replays [] []
  unfolding replay
  none_left i a W U w u s h = let z : ◌≡◌ {A = ℕ} 0 1 = cc in absurd (omega arith)

  whole_changed : (W : Win) (x : List ℕ) → Whole J.n W → Whole J.n (changed W x)
  unfolding changed
  whole_changed W x w = whole_after J.n W (job_of x) (side x) (bound (side x) (time_of x)) w

  module _ (x : List ℕ) (xs ys : List (List ℕ)) (less : length ys ≤ length xs) (rest : Replays xs ys) where
    module _ (i a : ℕ) (W U : Win) (w : Whole J.n W) (u : Whole J.n U) (s : Same (x ∷ xs) U W) (h : replay (trial J) J.p W i (x ∷ xs) ≡ clashes j) where
      abbrev first : ((trial J).code W x ≡ 0) × (behind (trial J) J.p W i x xs j ≡ clashes j)
      first = (clash_first (trial J) J.p W i x xs j).0 h

      good : GoodRecord J W x
      good = good_record J W x first.0

      kept_same : Same xs (changed U x) (changed W x)
      unfolding changed
      kept_same k q =
          moved_agree J.n U W u w (job_of x) good.passes.in_range.job (side x) (bound (side x) (time_of x)) k (s k (marked_more j x xs k q))

      kept_clash : marked_by j xs (job_of x) ≡ true → replay (trial J) J.p U a (x ∷ ys) ≡ clashes j
      kept_clash m =
          let own = kept_same (job_of x) m in
          let there = good_agree J U W x (s (job_of x) (marked_more j x xs (job_of x) m)) (λ k q. s k (marked_members j x xs k m q)) good in
          (clash_first (trial J) J.p U a x ys j).1
          (record_good J U x there, rw (own.early, own.late) (by (closes J.p (changed W x) (job_of x)) first.1))
        where
          by : (b : Bool) → or_closed b (closing (suc i) (job_of x) xs) (replay (trial J) J.p (changed W x) (suc i) xs) ≡ clashes j
              → or_closed b (closing (suc a) (job_of x) ys) (replay (trial J) J.p (changed U x) (suc a) ys) ≡ clashes j
          by true q = (closed_last (suc i) (suc a) (job_of x) j xs ys less q).0
          by false q = rest (suc i) (suc a) (changed W x) (changed U x) (whole_changed W x w) (whole_changed U x u) kept_same q

      -- one that is left out moves no job that is still marked, and closes no window
      out_clash : marked_by j xs (job_of x) ≡ false → replay (trial J) J.p U a ys ≡ clashes j
      unfolding changed
      out_clash m = by (closes J.p (changed W x) (job_of x)) first.1
        where
          apart : (k : ℕ) → marked_by j xs k ≡ true → k ≡ job_of x → ⊥
          apart k q e = let z : ◌≡◌ {A = ℕ} 0 1 = cc in absurd (omega arith)

          by : (b : Bool) → or_closed b (closing (suc i) (job_of x) xs) (replay (trial J) J.p (changed W x) (suc i) xs) ≡ clashes j
              → replay (trial J) J.p U a ys ≡ clashes j
          by true q = absurd (apart j (marked_own j xs) (sym (closed_last (suc i) a (job_of x) j xs ys less q).1))
          by false q =
              rest (suc i) a (changed W x) U (whole_changed W x w) u
              (λ k t. other_agree U W (job_of x) (side x) (bound (side x) (time_of x)) k (apart k t) (s k (marked_more j x xs k t))) q

    -- it is replayed too where its moved job is marked by those behind it
    pub kept : marked_by j xs (job_of x) ≡ true → Replays (x ∷ xs) (x ∷ ys)
    kept m i a W U w u s h = kept_clash i a W U w u s h m

    -- and may be left out where it is not
    pub left_out : marked_by j xs (job_of x) ≡ false → Replays (x ∷ xs) ys
    left_out m i a W U w u s h = out_clash i a W U w u s h m
