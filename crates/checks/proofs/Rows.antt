-- Laws over the checker's contract alone: two results that meet it are equal, and its field `exactly` alone makes them so; a record changes one bound of one
-- job.
use Prim.Native.Nat.{ℕ}
use mathlib.Core.Path.{◌≡◌, refl, sym, ap, ◌∙◌}
use mathlib.Core.List.{List}
use lib.Seq.{get_or-set_other}
use Rattle.lists.specs.Lists.{◌!◌}
use Rattle.narrowing.specs.Windows.{Win, win, Side, early, late, moved}
use Rattle.answers.specs.declared.CheckAnswer.{CheckAnswer}
use Rattle.answers.specs.Said.{says_check}
use Rattle.answers.proofs.Same.{check_same}
use Rattle.journal.specs.Journal.{job_of, time_of, records}
use Rattle.timetable.specs.Time.{bound}
use Rattle.timetable.specs.Table.{Call, jobs_of, asks}
use Rattle.codes.specs.Facts.{side}
use Rattle.verdicts.proofs.Rows as general
use Rattle.verdicts.proofs.Firm as firm
use Rattle.checks.specs.Replay.{changed, trial, Verdict, verdict_on, Checked, finds, judged, checked}
use Rattle.checks.specs.Fate.{Fate}
use Rattle.checks.specs.Promise.{Claimed, Exactly, Checks}
use Rattle.checks.proofs.Sound.{judging}
use Rattle.checks.proofs.Meaning.{by_trial}

pub checks_same : (c : Call) (count : ℕ) (a b : Checked) → Checks c count a → Checks c count b → a ≡ b
checks_same c count a b f g = f.answered ∙ sym g.answered

-- the same of the Rattle values
pub results_same : (c : Call) (count : ℕ) (r q : CheckAnswer) (e l e' l' : List ℕ) → Checks c count (finds (says_check r) (win e l)) → Checks c count (finds (says_check q) (win e' l'))
    → (r ≡ q) × (e ≡ e') × (l ≡ l')
results_same c count r q e l e' l' f g =
    let h = checks_same c count _ _ f g in
    (check_same r q (ap (λ (x : Checked). x.says) h), ap (λ (x : Checked). x.win.e) h, ap (λ (x : Checked). x.win.l) h)

-- a record moves one bound of its job, to t + 1 on side 0 and to t on side 1; every other window stays
pub one_bound : (W : Win) (x : List ℕ) → changed W x ≡ moved W (job_of x) (side x) (bound (side x) (time_of x))
unfolding changed
one_bound W x = refl

pub others_stay : (W : Win) (x : List ℕ) (k : ℕ) → (k ≡ job_of x → ⊥) → ((changed W x).e ! k ≡ W.e ! k) × ((changed W x).l ! k ≡ W.l ! k)
unfolding changed
others_stay W x k h = go (side x)
  where
    go : (s : Side) → ((moved W (job_of x) s (bound s (time_of x))).e ! k ≡ W.e ! k) × ((moved W (job_of x) s (bound s (time_of x))).l ! k ≡ W.l ! k)
    go early = (get_or-set_other W.e (job_of x) k _ 0 h, refl)
    go late = (refl, get_or-set_other W.l (job_of x) k _ 0 h)

module _ (c : Call) (count : ℕ) where
  -- the answer where the claimed records are there
  pub claimed_judged : Claimed c count → checked c count ≡ judged c count (verdict_on (jobs_of c) c.win (records c.log 0 count))
  unfolding checked
  claimed_judged = general.claimed_judged (trial (jobs_of c)) (asks c) count

  -- `exactly` by itself determines the answer and the windows
  pub facts_answer : (a : Checked) → Exactly c count a → a ≡ checked c count
  unfolding checked
  facts_answer a x = firm.facts_answer (trial (jobs_of c)) (asks c) count (judging c) a x

  -- so a verdict with its facts gives its answer
  pub fate_answers : (a : Checked) → Checks c count a → (v : Verdict) → Claimed c count → Fate c count v → a ≡ judged c count v
  fate_answers a h = general.fate_answers (trial (jobs_of c)) (asks c) count (judging c) a (by_trial c count a h)
