-- The definition of the checker keeps its promise over any rules: demand 2 for every record that it takes.
use Prim.Native.Nat.{ℕ, zero, suc, ◌<◌}
use native.Mathlib.Omega.{arith}
use native.Mathlib.Decide.{ℕ_discrete}
use mathlib.Core.Path.{◌≡◌, refl, sym, subst}
use mathlib.Core.Bool.{Bool, true, false}
use mathlib.Core.List.{List}
use mathlib.Core.Logic.{inl, inr}
use lib.Dec.{ltb}
use borrow.Author.Tests.{lt-ltb}
use Rattle.narrowing.specs.Windows.{Win}
use Rattle.narrowing.specs.Rules.{Step}
use Rattle.narrowing.proofs.Steps.{step_refl, step_trans, step-none, closed_none_left}
use Rattle.narrowing.proofs.Schedules.{step_schedule, none_schedule}
use Rattle.answers.specs.Said.{Word}
use Rattle.answers.proofs.Same.{not_said}
use Rattle.journal.specs.Journal.{room_of, records}
use Rattle.promises.specs.Ask.{Ask, job_count, lasts, refusal_of}
use Rattle.promises.specs.Promise.{Scheduled, NoneIn}
use Rattle.promises.proofs.TooShort.{too_short_none}
use Rattle.verdicts.specs.Replay.{Trial, Verdict, holds, clashes, rejected, verdict_on, Checked, judged, refuses, or_six, rows, checked}
use Rattle.verdicts.specs.Fate.{nth, reached, Takes, Closing, Fate, Shut}
use Rattle.verdicts.specs.Promise.{Judges, taken, Checks}
use Rattle.verdicts.proofs.Fates.{fate_exactly}
use Rattle.verdicts.proofs.Rows.{exactly}

module _ (T : Trial) (A : Ask) (y : Judges T A) where
  closing_takes : (h : ℕ) → Closing T A h → (i : ℕ) → i < suc h → Takes T A i
  closing_takes h x i b = elim (ℕ_discrete i h) [ yes e ↦ rw e x.takes | no e ↦ (x.before.held i (omega arith)).0 ]

  -- where a window is closed after so many records, all of them are good
  pub shut_takes : (count j : ℕ) → Shut T A count j → (i : ℕ) → i < count → Takes T A i
  shut_takes zero j x i b = absurd (omega arith)
  shut_takes (suc h) j x i b = closing_takes h x.0 i b

  -- the records that a verdict takes are good
  fate_takes : (count : ℕ) (v : Verdict) → Fate T A count v → (i : ℕ) → i < taken (judged A.win count v).says → Takes T A i
  fate_takes count (holds U) f i b = (f.1.held i b).0
  fate_takes count (clashes j) x i b = shut_takes count j x i b
  fate_takes count (rejected a k) (d, inl (j, x, q)) i b = shut_takes a j x i b
  fate_takes count (rejected a k) (d, inr (o, q, n)) i b = (o.held i b).0

  -- the records one after the other are steps of the rules
  reached_step : (i : ℕ) → ((h : ℕ) → h < i → Takes T A h) → Step (job_count A) (lasts A) A.rules A.win (reached T A i)
  unfolding reached
  reached_step zero t = step_refl (job_count A) (lasts A) A.rules A.win
  reached_step (suc i) t =
      step_trans (job_count A) (lasts A) A.rules A.win (reached T A i) _ (reached_step i (λ h b. t h (omega arith)))
      (y.step (reached T A i) _ (t i (omega arith)))

  fate_kept : (count : ℕ) (v : Verdict) → Fate T A count v → (s : List ℕ) → Scheduled A A.win s → Scheduled A (judged A.win count v).win s
  fate_kept count (holds U) f s x =
      subst (λ (W : Win). Scheduled A W s) (sym f.0)
      (step_schedule (job_count A) (lasts A) A.rules A.fits y.sound A.win (reached T A count)
      (reached_step count (λ h b. (f.1.held h b).0)) s x)
  fate_kept count (clashes j) f s x = x
  fate_kept count (rejected i k) f s x = x

  -- a closed window leaves no stable windows that hold their jobs
  shut_none : (count j : ℕ) → Shut T A count j → NoneIn A
  shut_none zero j x = too_short_none A j x.listed x.shorter
  shut_none (suc h) j (z, q) =
      step-none (job_count A) (lasts A) A.rules A.win (reached T A (suc h)) (reached_step (suc h) (closing_takes h z))
      (closed_none_left (job_count A) (lasts A) A.rules (reached T A (suc h)) _ (y.listed _ _ z.takes) (lt-ltb _ _ z.closed))

  fate_none : (count : ℕ) (v : Verdict) → Fate T A count v → (judged A.win count v).says.word ≡ Word.clash → (s : List ℕ) → Scheduled A A.win s → ⊥
  fate_none count (holds U) f e s x = not_said Word.holds Word.clash (λ q. omega arith) e
  fate_none count (clashes j) z e s x =
      none_schedule (job_count A) (lasts A) A.rules A.fits y.sound A.win (shut_none count j z) s x
  fate_none count (rejected i k) f e s x = not_said Word.rejected Word.clash (λ q. omega arith) e

  -- what is promised beside the answer
  record Promised (a : Checked) : Type 0 where
    implied : (i : ℕ) → i < taken a.says → T.reasoned (reached T A i) (nth A i)
    kept : (s : List ℕ) → Scheduled A A.win s → Scheduled A a.win s
    none : a.says.word ≡ Word.clash → (s : List ℕ) → Scheduled A A.win s → ⊥

  fate_sound : (count : ℕ) (v : Verdict) → Fate T A count v → Promised (judged A.win count v)
  fate_sound count v f =
      record { implied = λ i b. y.reasons _ _ (fate_takes count v f i b); kept = fate_kept count v f; none = fate_none count v f }

  refused_sound : (k : ℕ) → Promised (refuses A.win k)
  refused_sound k =
      record { implied = λ i b. absurd (omega arith); kept = λ s x. x; none = λ e. absurd (not_said Word.refused Word.clash (λ q. omega arith) e) }

  six_sound : (b : Bool) (v : Checked) → Promised v → Promised (or_six b (refuses A.win 6) v)
  six_sound true v f = refused_sound 6
  six_sound false v f = f

  rows_sound : (count k : ℕ) → Promised (rows T A count k)
  unfolding rows
  rows_sound count zero =
      let v = verdict_on T (job_count A) (lasts A) A.win (records A.log 0 count) in
      six_sound (ltb (room_of A.log) count) _ (fate_sound count v ((fate_exactly T A y count v).0 refl))
  rows_sound count (suc k) = refused_sound (suc k)

  pub checks : (count : ℕ) → Checks T A count (checked T A count)
  unfolding checked
  checks count =
      let f = rows_sound count (refusal_of A) in
      record {
        answered = refl;
        exactly = exactly T A count y (checked T A count) refl;
        implied = f.implied;
        kept = f.kept;
        none = f.none;
      }
