-- Laws over narrowing's contract, over any rules (document 02, Item 3): a clash without a record is given exactly where the list is good, whole records
-- fill the log and a window is too short, of the lowest such job, whatever the room; windows and log are then as before. Demands 2 and 3 for such a list:
-- there is no schedule, and there are no stable windows that are long enough.
use Prim.Native.Nat.{ℕ, ◌+◌, ◌<◌}
use native.Mathlib.Omega.{arith}
use mathlib.Core.Path.{◌≡◌, ap, ◌∙◌}
use mathlib.Core.List.{List, [], ◌∷◌}
use mathlib.Core.Logic.{inl, inr, ◌↔◌}
use lib.ListN.{length}
use borrow.Author.Tests.{lt-ltb}
use Rattle.lists.specs.Lists.{◌!◌}
use Rattle.narrowing.specs.Search.{Move}
use Rattle.narrowing.specs.Led.{Clashed}
use Rattle.narrowing.specs.Run.{Out}
use Rattle.narrowing.proofs.Steps.{closed_none_left}
use Rattle.narrowing.proofs.TooShort.{run_too_short, needed_none}
use Rattle.answers.specs.Said.{Word, said}
use Rattle.answers.proofs.Same.{not_refused}
use Rattle.journal.specs.Journal.{WholeRecords, logged, flat}
use Rattle.promises.specs.Ask.{Ask, job_count, lasts, Admitted, TooShort}
use Rattle.promises.specs.Table.{After, leaves, ended, ran}
use Rattle.promises.specs.Promise.{Scheduled, NoneIn, needs, Narrowest, Narrows}
use Rattle.promises.proofs.Calls.{call_admitted}
use Rattle.promises.proofs.Cased.{Case, cased}

-- ---- of the list alone, and any job whose window is too short

module _ (A : Ask) (j : ℕ) (b : j < job_count A) (short : A.win.l ! j < A.win.e ! j + lasts A ! j) where
  pub too_short_unscheduled : (s : List ℕ) → Scheduled A A.win s → ⊥
  too_short_unscheduled s f = omega (arith, f.from j b, f.to j b)

  pub too_short_none : NoneIn A
  too_short_none = closed_none_left (job_count A) (lasts A) A.rules A.win j b (lt-ltb _ _ short)

-- no record is needed
pub too_short_needs : (A : Ask) (j : ℕ) → TooShort A j → needs A ≡ 0
unfolding needs
too_short_needs A j s = needed_none A.search A.win j s

-- so demand 3 alone shuts out that such a list is refused, where the log is not ragged
pub too_short_decided : (A : Ask) (a : After) → Narrowest A a → WholeRecords A.log → (j : ℕ) → TooShort A j → a.says.word ≡ Word.refused → ⊥
too_short_decided A a h w j s e = not_refused a.says.word (h.decided (w, omega (arith, too_short_needs A j s))) e

-- ---- of the answer

module _ (A : Ask) (a : After) (h : Narrows A a) (j : ℕ) where
  too_short_ran : TooShort A j → ended A (ran A) ≡ leaves (said Word.clash (0 ∷ j ∷ [])) A.win A.log
  unfolding ended logged flat
  too_short_ran s = ap (λ (o : Out). ended A o) (run_too_short A.search A.room A.win j s)

  -- what such a list gets
  pub too_short_row : Admitted A → TooShort A j → a ≡ leaves (said Word.clash (0 ∷ j ∷ [])) A.win A.log
  too_short_row g s = go (cased A a h.answered)
    where
      go : Case A a → a ≡ leaves (said Word.clash (0 ∷ j ∷ [])) A.win A.log
      go (inl (k, d, q)) = absurd (omega (arith, d, call_admitted A g))
      go (inr (f, q)) = q ∙ too_short_ran s

  -- and no other list
  row_too_short : a.says ≡ said Word.clash (0 ∷ j ∷ []) → TooShort A j
  row_too_short e = let r = h.reasons.clash 0 j e in go r.logs.moves r.logs.many r.clashed
    where
      go : (ms : List Move) → length ms ≡ 0 → Clashed A.search A.win ms j → TooShort A j
      go [] m x = x
      go (y ∷ ms) m x = absurd (omega arith)

  pub too_short_exactly : (a.says ≡ said Word.clash (0 ∷ j ∷ [])) ↔ (Admitted A × TooShort A j)
  too_short_exactly = (λ e. let r = (h.exactly.clash 0).0 (j, e) in ((r.0, r.1.0), row_too_short e), λ y. ap (λ (z : After). z.says) (too_short_row y.0 y.1))
