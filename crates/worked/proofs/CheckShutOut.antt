-- The wrong checkers that document 01 names under 'How firm the statements are', each refuted by the field of the contract that 01 names for it, without the
-- help of `answered`.
use Prim.Native.Nat.{ℕ, zero, suc, ◌≤◌, ◌<◌, ◌+◌}
use native.Mathlib.Omega.{arith}
use mathlib.Core.Path.{◌≡◌, refl, sym, ap, ◌∙◌}
use mathlib.Core.Bool.{true, false}
use mathlib.Core.List.{[], ◌∷◌, ◌++◌}
use lib.ListN.{replicate}
use Rattle.lists.specs.Lists.{◌!◌}
use Rattle.narrowing.specs.Windows.{Win}
use Rattle.answers.specs.Said.{Word, Said, said}
use Rattle.answers.proofs.Same.{not_said}
use Rattle.members.specs.Members.{has, set_words}
use Rattle.journal.specs.Journal.{record_at}
use Rattle.timetable.specs.Time.{runs_at, drawn_by}
use Rattle.timetable.specs.Reason.{named_drawn}
use Rattle.timetable.specs.Table.{Call, call, After}
use Rattle.timetable.specs.Promise.{Narrows}
use Rattle.verdicts.specs.Fate as fate
use Rattle.checks.specs.Replay.{changed, Checked, checked}
use Rattle.checks.specs.Promise.{taken, Reasoned, Exactly, TakesLogs}
use Rattle.checks.proofs.Rows.{facts_answer}
use Rattle.worked.specs.Rows.{noted, with}
use Rattle.worked.specs.Runs.{lent}
use Rattle.worked.specs.Checks.{case_two, example}
use Rattle.worked.specs.Ragged.{case_five}

-- ---- one record that carries a whole run: it takes the first record of 004's Example 4.1 and leaves the windows of both; those left are the ones that the
-- records reach, and a record moves one bound (`exactly`)

pub leaping : (a : Checked) → Exactly (with 2 example (noted 0 0 4 1 2)) 1 a → a.says ≡ said Word.holds (1 ∷ []) → a.win.l ! 1 ≡ 5 → ⊥
unfolding record_at fate.reached changed
leaping a h e q = let z : a.win.l ! 1 ≡ 7 = ap (λ (W : Win). W.l ! 1) (h.reached (ap (λ (x : Said). x.word) e)) in omega arith

-- ---- taking all: codes 20 to 27 are given exactly when the paper says so (`exactly`)

-- on a log that the definition rejects nothing else is answered; `Checks checks_pinned` has one for each code, and several faults at once
pub taking_all : (c : Call) (count i k : ℕ) → (checked c count).says ≡ said Word.rejected (i ∷ k ∷ []) → (a : Checked) → Exactly c count a → a.says.word ≡ Word.holds → ⊥
taking_all c count i k d a h e =
    not_said Word.rejected Word.holds (λ z. omega arith) (sym (ap (λ (x : Said). x.word) (ap (λ (x : Checked). x.says) (facts_answer c count a h) ∙ d)) ∙ e)

-- by what a record implies too: one with no members on case 5 does not imply its change (`implied`)

abbrev alone : Call
alone = with 1 case_five (noted 0 0 1 0 0)

not_implied : Reasoned alone 0 → ⊥
unfolding record_at has named_drawn drawn_by runs_at
not_implied r =
    omega (
      arith,
      r.implies (0 ∷ 9 ∷ []) (record { members = λ k b h. let z : ◌≡◌ {A = ℕ} 0 1 = cc (none k b h) in absurd (omega arith); own = omega arith }) (omega arith),
    )
  where
    none : (k : ℕ) → k < 2 → has (replicate set_words 0) k ≡ true → true ≡ false
    none zero b h = sym h
    none (suc zero) b h = sym h
    none (suc (suc k)) b h = absurd (omega arith)

pub taking_unfounded : (a : Checked) → ((i : ℕ) → i < taken a.says → Reasoned alone i) → a.says ≡ said Word.holds (1 ∷ []) → ⊥
taking_unfounded a h e = not_implied (h 0 (rw e (omega arith)))

-- ---- checking against the final windows: it would take the records of 004's Example 4.1 in the other order, whose first states what is not yet so
-- (`implied`)

abbrev turned : Call
turned = with 2 example (noted 1 1 5 1 1 ++ noted 0 0 4 1 2)

not_there : Reasoned turned 0 → ⊥
unfolding record_at has fate.reached changed
not_there r = omega (arith, ((r.true_there (3 ∷ 2 ∷ []) (record { from = from; to = to })).members 0 (omega arith) refl).0)
  where
    from : (k : ℕ) → k < 2 → turned.win.e ! k ≤ (3 ∷ 2 ∷ []) ! k
    from zero b = omega arith
    from (suc zero) b = omega arith
    from (suc (suc k)) b = absurd (omega arith)

    to : (k : ℕ) → k < 2 → (3 ∷ 2 ∷ []) ! k + turned.p ! k ≤ turned.win.l ! k
    to zero b = omega arith
    to (suc zero) b = omega arith
    to (suc (suc k)) b = absurd (omega arith)

pub final_windows : (a : Checked) → ((i : ℕ) → i < taken a.says → Reasoned turned i) → a.says ≡ said Word.holds (2 ∷ []) → ⊥
final_windows a h e = not_there (h 0 (rw e (omega arith)))

abbrev case2 : Call
case2 = lent 5 case_two 1

-- ---- rejecting all: it takes the logs that narrowing writes, case 2's among them (`takes`)

pub rejecting_all : (a : After) → Narrows case2 a → a.says ≡ said Word.settled (1 ∷ [])
    → (b : Checked) → TakesLogs (call case2.win case2.p case2.r case2.cap a.log) 1 b → b.says.word ≡ Word.rejected → ⊥
rejecting_all a h s b k e =
    not_said Word.holds Word.rejected (λ z. omega arith) (sym (ap (λ (x : Checked). x.says.word) (k.settled case2.log a h refl s)) ∙ e)
