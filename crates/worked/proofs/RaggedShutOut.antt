-- Wrong versions of refusal 7 (document 02, Item 10), each refuted by the field `exactly` alone: a planner that uses a ragged log's whole records, one that
-- clears it as for 5, one that refuses an empty log; a checker that takes the whole records of a ragged log, and one that gives 6 for it.
use Prim.Native.Nat.{ℕ, suc}
use native.Mathlib.Omega.{arith}
use mathlib.Core.Path.{◌≡◌, refl, sym, ap, ◌∙◌}
use mathlib.Core.List.{List, [], ◌∷◌}
use lib.ListN.{replicate}
use Rattle.lists.specs.Lists.{◌!◌}
use Rattle.answers.specs.Said.{Word, Said, said}
use Rattle.answers.proofs.Same.{not_said}
use Rattle.journal.specs.Journal.{record_words, Ragged, cleared}
use Rattle.timetable.specs.Table.{Call, Good, refusal_of, After, leaves}
use Rattle.timetable.specs.Promise.{Exactly}
use Rattle.timetable.proofs.Calls.{admitted_call}
use Rattle.timetable.proofs.Ragged as narrowing
use Rattle.checks.specs.Replay.{Checked}
use Rattle.checks.specs.Promise as checks
use Rattle.checks.proofs.Ragged as checking
use Rattle.worked.specs.Rows.{with}
use Rattle.worked.specs.Ragged.{case_five}

-- case 5, which needs no record, with a log of any words
abbrev pub on : List ℕ → Call
on log = with 1 case_five log

good : (log : List ℕ) → Good (on log)
unfolding refusal_of
good log = (admitted_call (on []) refl).0

-- a record and a word
abbrev pub torn : List ℕ
torn = replicate (suc record_words) 9

is_torn : Ragged torn
is_torn w = omega (arith, w.1)

pub seven : (a : After) → Exactly (on torn) a → a ≡ leaves (said Word.refused (7 ∷ [])) (on torn).win torn
seven a h = narrowing.ragged_row (on torn) a h (good torn) is_torn

pub using_whole_records : (a : After) → Exactly (on torn) a → a.says.word ≡ Word.settled → ⊥
using_whole_records a h e = not_said Word.refused Word.settled (λ z. omega arith) (sym (ap (λ (x : After). x.says.word) (seven a h)) ∙ e)

pub clearing_ragged : (a : After) → Exactly (on torn) a → a.log ≡ cleared torn → ⊥
unfolding cleared
clearing_ragged a h e = let z : ◌≡◌ {A = ℕ} 9 0 = ap (λ (x : List ℕ). x ! 0) (sym (ap (λ (x : After). x.log) (seven a h)) ∙ e) in omega arith

pub refusing_empty : (a : After) → Exactly (on []) a → a.says ≡ said Word.refused (7 ∷ []) → ⊥
refusing_empty a h e = ((narrowing.ragged_exactly (on []) a h).0 e).1 (0, refl)

pub taking_whole_records : (count : ℕ) (a : Checked) → checks.Exactly (on torn) count a → a.says.word ≡ Word.holds → ⊥
taking_whole_records count a h e =
    not_said Word.refused Word.holds (λ z. omega arith) (sym (ap (λ (x : Checked). x.says.word) (checking.ragged_row (on torn) count a h (good torn) is_torn)) ∙ e)

pub six_first : (count : ℕ) (a : Checked) → checks.Exactly (on torn) count a → a.says ≡ said Word.refused (6 ∷ []) → ⊥
six_first count a h e =
    let z : ◌≡◌ {A = ℕ} 7 6 = ap (λ (x : Said). x.numbers ! 0) (sym (ap (λ (x : Checked). x.says) (checking.ragged_row (on torn) count a h (good torn) is_torn)) ∙ e) in
    omega arith
