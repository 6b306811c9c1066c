-- The call's answer is the answer table's: a refusal by tests 1 to 3 and 7, a clash where a window is too short, else what the work leaves, with the windows
-- as submitted unless it settled, and the log cleared where the room is short.
use Prim.Native.Nat.{ℕ, zero, suc}
use mathlib.Core.Path.{◌≡◌, refl, sym, ap, ap₂, subst, ◌∙◌}
use mathlib.Core.List.{List, [], ◌∷◌}
use lib.ListN.{length}
use Rattle.narrowing.specs.Windows.{Win, win}
use Rattle.narrowing.specs.Run.{Out, settled, clash, short}
use Rattle.answers.specs.declared.Answer.{Answer}
use Rattle.answers.specs.Said.{Word, said, says}
use Rattle.journal.specs.Journal.{cleared}
use Rattle.timetable.specs.Search.{lean_member}
use Rattle.timetable.specs.Table.{Call, call, Admitted, TooShort, refusal_of, leaves, ended, tabled, narrowed, narrowed_by}
use Rattle.timetable.specs.Promise.{Narrows}
use Rattle.timetable.proofs.Calls.{call_admitted}
use Rattle.timetable.proofs.Meaning.{narrows}
use Rattle.timetable.proofs.TooShort.{too_short_row}
use Rattle.rounds.specs.Work.{EndsAs, outcome, Works}

-- what narrowing leaves, by the work's answer: the windows, and the log
abbrev pub win_by : Call → Answer → Win → Win
win_by c (Answer.Settled n) W = W
win_by c (Answer.Clash n j) W = c.win
win_by c (Answer.Refused k) W = c.win

abbrev pub log_by : Call → Answer → List ℕ → List ℕ
log_by c (Answer.Settled n) log = log
log_by c (Answer.Clash n j) log = log
log_by c (Answer.Refused k) log = cleared c.log

-- a cleared log is known by its length
pub cleared_same : (a b : List ℕ) → length a ≡ length b → cleared a ≡ cleared b
unfolding cleared
cleared_same a b e = rw e

module _ (c : Call) where
  by_refusal : (k : ℕ) → (k ≡ 0 → ⊥) → tabled lean_member c k ≡ leaves (said Word.refused (k ∷ [])) c.win c.log
  unfolding tabled
  by_refusal zero h = absurd (h refl)
  by_refusal (suc k) h = refl

  by_run : (k : ℕ) → k ≡ 0 → tabled lean_member c k ≡ ended lean_member c (outcome c)
  unfolding tabled outcome
  by_run k h = rw h

  -- one of the tests fails
  pub refused : (k : ℕ) → k ≡ refusal_of c → (k ≡ 0 → ⊥) → Narrows c (leaves (says (Answer.Refused k)) c.win c.log)
  unfolding narrowed_by
  refused k e h = subst (Narrows c) (ap (tabled lean_member c) (sym e) ∙ by_refusal k h) (narrows c)

  -- none does, and a window is too short
  pub clashed : Admitted c → (j : ℕ) → TooShort c j → Narrows c (leaves (says (Answer.Clash 0 j)) c.win c.log)
  clashed g j s = subst (Narrows c) (too_short_row c (narrowed c) (narrows c) j g s) (narrows c)

  -- the work is done
  pub finished : Admitted c → (a : Answer) (W : Win) (log : List ℕ) → Works c a W log → Narrows c (leaves (says a) (win_by c a W) (log_by c a log))
  unfolding narrowed_by ended
  finished g a W log h = subst (Narrows c) (by_run (refusal_of c) (call_admitted c g) ∙ go (outcome c) h) (narrows c)
    where
      go : (o : Out) → EndsAs c o a W log → ended lean_member c o ≡ leaves (says a) (win_by c a W) (log_by c a log)
      go (settled U ms) x = rw (x.0, x.1, x.2)
      go (clash j ms) x = rw (x.0, x.1)
      go short x = rw x

  -- the same, where it was done on copies of the windows
  pub worked : Admitted c → (a : Answer) (E L : List ℕ) (W : Win) (log : List ℕ) → E ≡ c.win.e → L ≡ c.win.l
      → Works (call (win E L) c.p c.r c.cap c.log) a W log
      → Narrows c (leaves (says a) (win_by c a W) (log_by c a log))
  worked g a E L W log e l h =
      finished g a W log (subst (λ (U : Win). Works (call U c.p c.r c.cap c.log) a W log) (ap₂ win e l) h)
