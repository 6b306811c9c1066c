-- The records that a clash needs (document 02, Item 14), those whose moved job is marked by the records behind them, are a log by themselves: the checker takes
-- them to a clash of the same job, whatever stands behind them, and they mark the same jobs.
use Prim.Native.Nat.{ℕ, zero, suc, ◌≤◌}
use native.Mathlib.Omega.{arith}
use mathlib.Core.Path.{◌≡◌, refl, sym, ap, ◌∙◌}
use mathlib.Core.Bool.{Bool, true, false, cond}
use mathlib.Core.List.{List, [], ◌∷◌, ◌++◌}
use mathlib.Core.Option.{Option, none, some}
use lib.ListN.{length}
use Rattle.lists.specs.Tests.{either}
use Rattle.narrowing.specs.Windows.{Win, lowest_too_short}
use Rattle.narrowing.proofs.Moves.{Whole}
use Rattle.answers.specs.Said.{Word, said}
use Rattle.members.specs.Members.{set_words, setOf, ones_of}
use Rattle.members.proofs.Sets.{set_of_cong}
use Rattle.journal.specs.Journal.{WholeRecords, room_of, records, AreRecords, logged, job_of}
use Rattle.journal.proofs.Records.{whole_length, logged_length, logged_room, logged_records}
use Rattle.promises.proofs.Calls.{whole}
use Rattle.timetable.specs.Time.{Jobs}
use Rattle.timetable.specs.Table.{Call, call, jobs_of, asks, Good}
use Rattle.verdicts.specs.Replay.{or_too_short, replay}
use Rattle.verdicts.proofs.Fates.{fate_exactly}
use Rattle.checks.specs.Replay.{trial, clashes, verdict_on, finds, checked}
use Rattle.checks.specs.Fate.{Shut}
use Rattle.checks.proofs.Sound.{judging}
use Rattle.checks.proofs.Meaning.{checks}
use Rattle.checks.proofs.Rows.{fate_answers}
use Rattle.conflicts.specs.Marks.{marked_by, needed_by}
use Rattle.conflicts.specs.Table.{blame, marks_of, marking, conflict_of}
use Rattle.conflicts.specs.Promise.{ClashOf}
use Rattle.conflicts.proofs.Marks.{marked_own, records_are}
use Rattle.conflicts.proofs.LeftOut.{Replays, none_left, kept, left_out, closed_last}
use Rattle.conflicts.proofs.Rows.{clash_row}

-- ---- the records needed

-- record by record: it is needed, or it is left out
needed_ind : (j : ℕ) (P : List (List ℕ) → List (List ℕ) → Type 0) → P [] []
    → ((x : List ℕ) (xs : List (List ℕ)) → marked_by j xs (job_of x) ≡ true → P xs (needed_by j xs) → P (x ∷ xs) (x ∷ needed_by j xs))
    → ((x : List ℕ) (xs : List (List ℕ)) → marked_by j xs (job_of x) ≡ false → P xs (needed_by j xs) → P (x ∷ xs) (needed_by j xs))
    → (xs : List (List ℕ)) → P xs (needed_by j xs)
unfolding needed_by
needed_ind j P start keep out [] = start
needed_ind j P start keep out (x ∷ xs) = by (marked_by j xs (job_of x)) refl (needed_ind j P start keep out xs)
  where
    by : (b : Bool) → marked_by j xs (job_of x) ≡ b → P xs (needed_by j xs) → P (x ∷ xs) (cond b (x ∷ needed_by j xs) (needed_by j xs))
    by true e h = keep x xs e h
    by false e h = out x xs e h

-- no more than there are
pub needed_few : (j : ℕ) (xs : List (List ℕ)) → length (needed_by j xs) ≤ length xs
needed_few j = needed_ind j (λ xs ys. length ys ≤ length xs) (omega arith) (λ x xs e h. omega arith) (λ x xs e h. omega arith)

needed_are : (j : ℕ) (xs : List (List ℕ)) → AreRecords xs → AreRecords (needed_by j xs)
needed_are j = needed_ind j (λ xs ys. AreRecords xs → AreRecords ys) (λ r. r) (λ x xs e h r. (r.0, h r.1)) (λ x xs e h r. h r.1)

-- they mark the same jobs
pub needed_marks : (j : ℕ) (xs : List (List ℕ)) (k : ℕ) → marked_by j (needed_by j xs) k ≡ marked_by j xs k
unfolding marked_by
needed_marks j =
    needed_ind j (λ xs ys. (k : ℕ) → marked_by j ys k ≡ marked_by j xs k) (λ k. refl) (λ x xs e h k. rw (h k, h (job_of x)))
    (λ x xs e h k. h k ∙ rw e (sym (alone (marked_by j xs k))))
  where
    alone : (b : Bool) → either b false ≡ b
    alone true = refl
    alone false = refl

-- the closing record is always needed, behind whatever others are
pub needed_closing : (xs : List (List ℕ)) (x : List ℕ) → (ys : List (List ℕ)) × (needed_by (job_of x) (xs ++ (x ∷ [])) ≡ ys ++ (x ∷ []))
unfolding needed_by
needed_closing [] x = ([], rw (marked_own (job_of x) []))
needed_closing (y ∷ xs) x = by (marked_by (job_of x) (xs ++ (x ∷ [])) (job_of y)) (needed_closing xs x)
  where
    by : (b : Bool) → (ys : List (List ℕ)) × (needed_by (job_of x) (xs ++ (x ∷ [])) ≡ ys ++ (x ∷ []))
        → (ys : List (List ℕ)) × (cond b (y ∷ needed_by (job_of x) (xs ++ (x ∷ []))) (needed_by (job_of x) (xs ++ (x ∷ []))) ≡ ys ++ (x ∷ []))
    by true (ys, e) = (y ∷ ys, ap (λ (zs : List (List ℕ)). y ∷ zs) e)
    by false h = h

-- ---- the verdict on them

needed_replays : (J : Jobs) (j : ℕ) (xs : List (List ℕ)) → Replays J j xs (needed_by j xs)
needed_replays J j =
    needed_ind j (Replays J j) (none_left J j) (λ x xs e r. kept J j x xs (needed_by j xs) (needed_few j xs) r e)
    (λ x xs e r. left_out J j x xs (needed_by j xs) (needed_few j xs) r e)

needed_verdict : (J : Jobs) (j : ℕ) (W : Win) → Whole J.n W → (xs : List (List ℕ)) → verdict_on J W xs ≡ clashes j → verdict_on J W (needed_by j xs) ≡ clashes j
unfolding verdict_on
needed_verdict J j W w xs = by (lowest_too_short J.n J.p W)
  where
    by : (o : Option ℕ) → or_too_short o xs (replay (trial J) J.p W 0 xs) ≡ clashes j
        → or_too_short o (needed_by j xs) (replay (trial J) J.p W 0 (needed_by j xs)) ≡ clashes j
    by none h = needed_replays J j xs 0 0 W W w w (λ k q. record { early = refl; late = refl }) h
    by (some k) h = (closed_last 0 0 k j xs (needed_by j xs) (needed_few j xs) h).0

pub needed_taken : (c : Call) → Good c → (count j : ℕ) → Shut c count j → verdict_on (jobs_of c) c.win (needed_by j (records c.log 0 count)) ≡ clashes j
unfolding verdict_on
needed_taken c g count j x =
    needed_verdict (jobs_of c) j c.win (whole (asks c) g) (records c.log 0 count)
    ((fate_exactly (trial (jobs_of c)) (asks c) (judging c) count (clashes j)).1 x)

-- ---- the answers

records_count : (log : List ℕ) (m i : ℕ) → length (records log i m) ≡ m
unfolding records
records_count log zero i = refl
records_count log (suc m) i = ap suc (records_count log m (suc i))

-- a clash log
module _ (c : Call) (count j : ℕ) (x : ClashOf c count j) where
  -- the records that it needs
  abbrev pub few : List (List ℕ)
  few = needed_by j (records c.log 0 count)

  -- the same call with another log
  abbrev pub with_log : List ℕ → Call
  with_log log = call c.win c.p c.r c.cap log

  -- whole records fill the log, and they begin with those that are needed, whatever stands behind
  abbrev pub Begins : List ℕ → Type 0
  Begins log = WholeRecords log × (length few ≤ room_of log) × (records log 0 (length few) ≡ few)

  pub needed_clash : (log : List ℕ) → Begins log → ClashOf (with_log log) (length few) j
  unfolding verdict_on
  needed_clash log (w, b, e) =
      let g = x.0.0.0 in (
        ((g, w), b),
        (fate_exactly (trial (jobs_of c)) (asks (with_log log)) (judging (with_log log)) (length few) (clashes j)).0
            (ap (verdict_on (jobs_of c) c.win) e ∙ needed_taken c g count j x.1),
      )

  -- the checker takes them to a clash of the same job
  pub needed_checked : (log : List ℕ) → Begins log → checked (with_log log) (length few) ≡ finds (said Word.clash (length few ∷ j ∷ [])) c.win
  needed_checked log h =
      let y = needed_clash log h in
      fate_answers (with_log log) (length few) (checked (with_log log) (length few)) (checks (with_log log) (length few)) (clashes j) y.0 y.1

  -- and the same jobs are named
  pub needed_blamed : (log : List ℕ) → Begins log → conflict_of (with_log log) (length few) ≡ conflict_of c count
  unfolding marking marks_of
  needed_blamed log h =
      clash_row (with_log log) (length few) j (needed_clash log h)
      ∙ ap (λ (s : List ℕ). blame (said Word.marked (ones_of s ∷ [])) s)
      (ap (λ (rs : List (List ℕ)). setOf set_words (marked_by j rs)) h.2 ∙ set_of_cong set_words _ _ (λ k b. needed_marks j (records c.log 0 count) k))
      ∙ sym (clash_row c count j x)

  -- such is any log with room for them after they are written into it; the clash log itself has that room
  pub logged_begins : (log : List ℕ) → WholeRecords log → length few ≤ room_of log → Begins (logged few log)
  logged_begins log w b =
      let r = needed_are j (records c.log 0 count) (records_are c.log count 0 (omega (arith, x.0.1))) in
      (whole_length log (logged few log) (logged_length few log r b) w, omega (arith, logged_room few log r b), logged_records few log r b)

  pub needed_count : length few ≤ count
  needed_count = omega (arith, needed_few j (records c.log 0 count), records_count c.log count 0)
