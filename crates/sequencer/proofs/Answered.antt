-- The call's answer is the answer table's: a refusal by tests 1 to 3, a clash where a window is too short, else what the work leaves, with the windows as
-- submitted unless it settled.
use Prim.Native.Nat.{ℕ, zero, suc}
use mathlib.Core.Path.{◌≡◌, refl, sym, ap, ap₂, subst, ◌∙◌}
use mathlib.Core.List.{List, [], ◌∷◌}
use Rattle.lists.specs.Tests.{unless}
use Rattle.lists.proofs.Tests.{or_first}
use Rattle.narrowing.specs.Windows.{Win, win, LowestTooShort}
use Rattle.narrowing.specs.Run.{Out, settled, clash, short}
use Rattle.answers.specs.declared.Answer.{Answer}
use Rattle.answers.specs.Said.{Word, said, says}
use Rattle.joblist.specs.Limits.{jobs, three_lists}
use Rattle.joblist.specs.GoodList.{refusal}
use Rattle.joblist.proofs.Refusals.{refusal_exactly}
use Rattle.journal.specs.Journal.{is_whole}
use Rattle.promises.specs.Ask.{refusal_of}
use Rattle.promises.specs.Table.{After, leaves, ended, ran, tabled, narrowed}
use Rattle.promises.specs.Plain.{unwritten}
use Rattle.promises.specs.Counted.{left_by}
use Rattle.promises.proofs.Calls.{call_admitted}
use Rattle.promises.proofs.Meaning as general
use Rattle.promises.proofs.TooShort.{too_short_row}
use Rattle.heads.specs.Promise.{head_ask, GoodHead, left, sequenced, Sequences}
use Rattle.heads.proofs.Meaning.{grounds, sequences}
use Rattle.sequencing.specs.Work.{EndsIn, Works}

-- what the call leaves of the windows, by the work's answer
abbrev pub win_by : Win → Answer → Win → Win
win_by W (Answer.Settled n) X = X
win_by W (Answer.Clash n j) X = W
win_by W (Answer.Refused k) X = W

pub unsettled : (W : Win) (a : Answer) (X : Win) → ((n : ℕ) → a ≡ Answer.Settled n → ⊥) → win_by W a X ≡ W
unsettled W (Answer.Settled n) X h = absurd (h n refl)
unsettled W (Answer.Clash n j) X h = refl
unsettled W (Answer.Refused k) X h = refl

module _ (W : Win) (p : List ℕ) where
  -- the number that the code's tests give
  abbrev pub Number : ℕ → Type 0
  Number k = k ≡ refusal (jobs W) (three_lists W p) []

  pub accepted : Number 0 → GoodHead W p
  accepted e = (refusal_exactly (jobs W) (three_lists W p) [] 0).0 (sym e)

  -- whatever the answer table says is promised
  by_table : (a : After) → narrowed (head_ask W p) ≡ a → Sequences W p (unwritten a)
  unfolding sequenced left_by
  by_table a e = subst (Sequences W p) (ap (λ (x : After). unwritten x) e) (sequences W p)

  -- one of the tests fails
  by_refusal : (k : ℕ) → (k ≡ 0 → ⊥) → tabled (head_ask W p) k ≡ leaves (said Word.refused (k ∷ [])) W []
  unfolding tabled
  by_refusal zero h = absurd (h refl)
  by_refusal (suc k) h = refl

  number_is : (k : ℕ) → Number k → (k ≡ 0 → ⊥) → refusal_of (head_ask W p) ≡ k
  unfolding refusal_of
  number_is k e h = rw (← e) (or_first k (unless (is_whole []) 7 0) h)

  pub refused : (k : ℕ) → Number k → (k ≡ 0 → ⊥) → Sequences W p (left (says (Answer.Refused k)) W)
  unfolding narrowed
  refused k e h = by_table _ (ap (tabled (head_ask W p)) (number_is k e h) ∙ by_refusal k h)

  -- none does, and a window is too short
  pub clashed : GoodHead W p → (j : ℕ) → LowestTooShort (jobs W) p W j → Sequences W p (left (says (Answer.Clash 0 j)) W)
  clashed g j s =
      by_table _ (too_short_row (head_ask W p) (narrowed (head_ask W p)) (general.narrows (head_ask W p) (grounds W p)) j (g, (0, refl)) s)

  by_run : GoodHead W p → narrowed (head_ask W p) ≡ ended (head_ask W p) (ran (head_ask W p))
  unfolding narrowed tabled
  by_run g = rw (call_admitted (head_ask W p) (g, (0, refl)))

  -- the work is done
  finished : GoodHead W p → (a : Answer) (X : Win) → Works W p a X → Sequences W p (left (says a) (win_by W a X))
  unfolding ended
  finished g a X h = subst (Sequences W p) (go (ran (head_ask W p)) h) (by_table (ended (head_ask W p) (ran (head_ask W p))) (by_run g))
    where
      go : (o : Out) → EndsIn o a X → unwritten (ended (head_ask W p) o) ≡ left (says a) (win_by W a X)
      go (settled U ms) x = rw (x.0, x.1)
      go (clash j ms) x = rw x
      go short x = absurd x

  -- the same, where it was done on copies of the windows
  pub worked : GoodHead W p → (a : Answer) (E L : List ℕ) (X : Win) → E ≡ W.e → L ≡ W.l → Works (win E L) p a X → Sequences W p (left (says a) (win_by W a X))
  worked g a E L X e l h = finished g a X (subst (λ (U : Win). Works U p a X) (ap₂ win e l) h)
