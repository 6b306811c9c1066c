-- Wrong versions of the call that names jobs (document 02, Item 14), each refuted by the field of the contract that names it, without the help of
-- `answered`: on the log by hand, whose jobs 0, 1 and 3 cannot be done together.
use Prim.Native.Nat.{ℕ, zero, suc, ◌+◌, ◌≤◌, ◌<◌}
use native.Mathlib.Omega.{arith}
use mathlib.Core.Path.{◌≡◌, refl, sym, ap, ◌∙◌}
use mathlib.Core.Bool.{true, false}
use mathlib.Core.List.{List, [], ◌∷◌, ◌++◌}
use lib.Dec.{ltb}
use borrow.Author.Tests.{le-ltb}
use Rattle.lists.specs.Lists.{◌!◌}
use Rattle.lists.proofs.Tests.{both_false}
use Rattle.answers.specs.Said.{Word, Said, said}
use Rattle.answers.proofs.Same.{not_said}
use Rattle.members.specs.Members.{has}
use Rattle.timetable.specs.Time.{runs_at, drawn_by}
use Rattle.timetable.specs.Table.{Call, jobs_of}
use Rattle.conflicts.specs.Apart.{Together}
use Rattle.conflicts.specs.Table.{Blamed, blame, conflict_of}
use Rattle.conflicts.specs.Promise.{Exactly, NotTogether}
use Rattle.conflicts.proofs.Only.{together_fewer}
use Rattle.conflicts.proofs.Same.{facts_answer}
use Rattle.worked.specs.Rows.{with, noted}
use Rattle.worked.specs.Conflicts.{set_at, chain, chain_log}

abbrev pub chained : Call
chained = with 1 chain chain_log

-- what the field `exactly` leaves
given : (a : Blamed) → Exactly chained 3 a → a ≡ blame (said Word.marked (3 ∷ [])) (set_at 0 11)
unfolding conflict_of
given a h = facts_answer chained 3 a h

-- ---- too many marks: `exactly`, whose `traced` is both ways

other_set : (a : Blamed) → Exactly chained 3 a → (x : ℕ) → (11 ≡ x → ⊥) → a.set ≡ set_at 0 x → ⊥
other_set a h x f e = f (ap (λ (s : List ℕ). s ! 0) (sym (ap (λ (z : Blamed). z.set) (given a h)) ∙ e))

-- all jobs, as where a record is marked because its moved job or a member of it is
pub marking_all : (a : Blamed) → Exactly chained 3 a → a.set ≡ set_at 0 15 → ⊥
marking_all a h = other_set a h 15 (λ e. omega arith)

-- a record marked, with its moved job, because a member of it and not its moved job is
pub marked_by_a_member : (a : Blamed) → Exactly chained 3 a → a.set ≡ set_at 0 14 → ⊥
marked_by_a_member a h = other_set a h 14 (λ e. omega arith)

-- ---- too few: the jobs that are left have starts by themselves, whatever else is said (`blamed`)

-- jobs 1 and 3 at the times 0 and 1; the others nowhere near their windows, one after its own and one before
abbrev starts : List ℕ
starts = 9 ∷ 0 ∷ 0 ∷ 1 ∷ []

two : Together (jobs_of chained) (has (set_at 0 10)) chained.win starts
unfolding has drawn_by runs_at
two = record { from = from; to = to; fits = fits }
  where
    from : (k : ℕ) → k < 4 → has (set_at 0 10) k ≡ true → chained.win.e ! k ≤ starts ! k
    from zero b h = omega arith
    from (suc zero) b h = omega arith
    from (suc (suc zero)) b h = let z : ◌≡◌ {A = ℕ} 0 1 = cc in absurd (omega arith)
    from (suc (suc (suc zero))) b h = omega arith
    from (suc (suc (suc (suc k)))) b h = absurd (omega arith)

    to : (k : ℕ) → k < 4 → has (set_at 0 10) k ≡ true → starts ! k + chained.p ! k ≤ chained.win.l ! k
    to zero b h = let z : ◌≡◌ {A = ℕ} 0 1 = cc in absurd (omega arith)
    to (suc zero) b h = omega arith
    to (suc (suc zero)) b h = omega arith
    to (suc (suc (suc zero))) b h = omega arith
    to (suc (suc (suc (suc k)))) b h = absurd (omega arith)

    fits : (t : ℕ) → drawn_by (jobs_of chained) (has (set_at 0 10)) starts t ≤ 1
    fits zero = omega arith
    fits (suc zero) = omega arith
    fits (suc (suc t)) =
        let a : ltb (suc (suc t)) 1 ≡ false = le-ltb (suc (suc t)) 1 (omega arith) in
        let b : ltb (suc (suc t)) 2 ≡ false = le-ltb (suc (suc t)) 2 (omega arith) in
        rw (a, b, both_false, both_false) (omega arith)

one : Together (jobs_of chained) (has (set_at 0 8)) chained.win starts
unfolding has
one = together_fewer (jobs_of chained) (has (set_at 0 10)) (has (set_at 0 8)) sub chained.win starts two
  where
    sub : (k : ℕ) → k < 4 → has (set_at 0 8) k ≡ true → has (set_at 0 10) k ≡ true
    sub zero b h = h
    sub (suc zero) b h = refl
    sub (suc (suc zero)) b h = h
    sub (suc (suc (suc zero))) b h = h
    sub (suc (suc (suc (suc k)))) b h = absurd (omega arith)

-- the closing record's job and members alone, as where marks are looked up in the records' order, or where the first record is skipped
pub in_the_records_order : (a : Blamed) → NotTogether chained a → a.says.word ≡ Word.marked → a.set ≡ set_at 0 10 → ⊥
in_the_records_order a f e q = f e starts (rw q two)

-- the job of the clash alone, as where the closing record's members are not marked
pub named_job_alone : (a : Blamed) → NotTogether chained a → a.says.word ≡ Word.marked → a.set ≡ set_at 0 8 → ⊥
named_job_alone a f e q = f e starts (rw q one)

-- ---- the answer and the set of a refusal (`exactly`)

-- the same log with its last record miscounted, which the checker rejects
abbrev pub spoilt : Call
spoilt = with 1 chain (noted 1 0 0 1 1 ++ noted 2 0 1 1 2 ++ noted 3 0 1 2 2)

pub marks_of_a_rejected_log : (a : Blamed) → Exactly spoilt 3 a → a.says.word ≡ Word.marked → ⊥
unfolding conflict_of
marks_of_a_rejected_log a h e = not_said Word.refused Word.marked (λ z. omega arith) (sym (ap (λ (z : Blamed). z.says.word) (facts_answer spoilt 3 a h)) ∙ e)

pub eight_before_six : (a : Blamed) → Exactly chained 4 a → a.says ≡ said Word.refused (8 ∷ []) → ⊥
unfolding conflict_of
eight_before_six a h e =
    let z : ◌≡◌ {A = ℕ} 6 8 = ap (λ (x : Said). x.numbers ! 0) (sym (ap (λ (x : Blamed). x.says) (facts_answer chained 4 a h)) ∙ e) in
    omega arith

pub set_kept_on_a_refusal : (c : Call) (count k x : ℕ) (a : Blamed) → Exactly c count a → a.says ≡ said Word.refused (k ∷ []) → 1 ≤ x → a.set ≡ set_at 0 x → ⊥
set_kept_on_a_refusal c count k x a h e b f =
    let z : 0 ≡ x = ap (λ (s : List ℕ). s ! 0) (sym (h.zeros (ap (λ (y : Said). y.word) e)) ∙ f) in
    omega arith

pub counting_one_too_many : (a : Blamed) → Exactly chained 3 a → a.says ≡ said Word.marked (4 ∷ []) → ⊥
counting_one_too_many a h e =
    let z : ◌≡◌ {A = ℕ} 3 4 = ap (λ (x : Said). x.numbers ! 0) (sym (ap (λ (x : Blamed). x.says) (given a h)) ∙ e) in
    omega arith
