-- The rows of the answer table as the code comes to them: from the end of a replay on copies of the windows, and from the tests before it.
use Prim.Native.Nat.{ℕ, zero, suc, ◌≤◌, ◌<◌}
use mathlib.Core.Path.{◌≡◌, refl, sym, subst}
use mathlib.Core.List.{[], ◌∷◌}
use mathlib.Core.Option.{none}
use lib.ListN.{length}
use borrow.Author.Tests.{lt-ltb}
use Rattle.narrowing.specs.Windows.{Win}
use Rattle.narrowing.proofs.TooShort.{finds_too_short}
use Rattle.joblist.specs.Limits.{jobs}
use Rattle.answers.specs.Said.{Word, said}
use Rattle.journal.specs.Journal.{room_of, records}
use Rattle.timetable.specs.Table.{Call, Admitted, TooShort, AllLong, refusal_of}
use Rattle.timetable.proofs.Good.{durations_sized}
use Rattle.checks.specs.Replay.{Verdict, holds, clashes, rejected, replay, verdict_on, Checked, finds, judged, refuses, rows, checked}
use Rattle.checks.specs.Promise.{Claimed, Checks}
use Rattle.exam.specs.Lent.{jobs_in}
use Rattle.checks.proofs.Meaning.{checks}
use Rattle.checks.proofs.Rows.{claimed_judged}
use Rattle.checks.proofs.TooShort.{too_short_unclaimed, too_short_claimed}

-- ---- the end of a replay

module _ (c : Call) (count : ℕ) (v : Verdict) where
  -- that left the windows U
  pub row_holds : (U W : Win) → holds U ≡ v → W ≡ U → finds (said Word.holds (count ∷ [])) W ≡ judged c count v
  row_holds U W h e = rw (← h, e)

  pub row_clash : (j : ℕ) → clashes j ≡ v → finds (said Word.clash (count ∷ j ∷ [])) c.win ≡ judged c count v
  row_clash j h = rw (← h)

  pub row_rejected : (i k : ℕ) → rejected i k ≡ v → finds (said Word.rejected (i ∷ k ∷ [])) c.win ≡ judged c count v
  row_rejected i k h = rw (← h)

-- ---- the tests before it

module _ (c : Call) (count : ℕ) where
  -- the promise goes with the answer
  pub promised : (a : Checked) → a ≡ checked c count → Checks c count a
  promised a e = subst (Checks c count) (sym e) (checks c count)

  pub row_refused : (k : ℕ) → (k ≡ 0 → ⊥) → k ≡ refusal_of c → refuses c k ≡ checked c count
  unfolding checked rows
  row_refused zero f e = absurd (f refl)
  row_refused (suc k) f e = rw (← e)

  pub row_six : refusal_of c ≡ 0 → room_of c.log < count → refuses c 6 ≡ checked c count
  unfolding checked rows
  row_six e h = rw (e, lt-ltb (room_of c.log) count h)

  -- a window is too short
  pub row_short_claimed : (j : ℕ) → Admitted c → TooShort c j → 0 < count → count ≤ room_of c.log → finds (said Word.rejected (0 ∷ 20 ∷ [])) c.win ≡ checked c count
  row_short_claimed j g s b r = sym (too_short_claimed c count (checked c count) (checks c count) g j s b r)

  pub row_short_unclaimed : (j : ℕ) → Admitted c → TooShort c j → count ≡ 0 → finds (said Word.clash (0 ∷ j ∷ [])) c.win ≡ checked c count
  row_short_unclaimed j g s e = sym (too_short_unclaimed c count (checked c count) (checks c count) g j s e)

  -- no window is too short: the verdict is the replay's
  pub row_judged : Claimed c count → AllLong c
      → judged c count (replay (jobs_in (length c.p) c.p c.r c.cap) c.win 0 (records c.log 0 count)) ≡ checked c count
  unfolding verdict_on
  row_judged g L = rw (durations_sized g.0.0, claimed_judged c count g, finds_too_short (jobs c.win) c.p c.win none L)
