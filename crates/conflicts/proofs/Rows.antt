-- The rows of the call that names jobs, in facts: each refusal and the marks are given exactly when document 02's Item 14 says so, and leave the set that
-- it says.
use Prim.Native.Nat.{ℕ, zero, suc}
use native.Mathlib.Omega.{arith}
use mathlib.Core.Path.{◌≡◌, refl, sym, ap, subst, ◌∙◌}
use mathlib.Core.Bool.{Bool, true, false}
use mathlib.Core.List.{List, [], ◌∷◌}
use mathlib.Core.Logic.{◌⊎◌, inl, inr, ◌↔◌}
use lib.Dec.{ltb}
use lib.ListN.{length, replicate, length-replicate}
use borrow.Author.Tests.{ltb-true, ltb-false}
use Rattle.lists.specs.Lists.{◌!◌}
use Rattle.answers.specs.Said.{Word, Said, said}
use Rattle.answers.proofs.Same.{not_said, said_apart}
use Rattle.members.specs.Members.{set_words, has, ones_of, AreWords}
use Rattle.members.proofs.Sets.{set_of_length, set_of_words}
use Rattle.members.proofs.Writing.{zeros_words}
use Rattle.journal.specs.Journal.{room_of, records}
use Rattle.journal.proofs.Records.{room_short}
use Rattle.promises.proofs.Calls.{admitted_call, away_exactly}
use Rattle.timetable.specs.Table.{Call, jobs_of, asks, refusal_of}
use Rattle.verdicts.proofs.Fates.{fate_exactly}
use Rattle.verdicts.proofs.Rows as general
use Rattle.checks.specs.Replay.{trial, Verdict, holds, clashes, rejected, verdict_on}
use Rattle.checks.specs.Fate.{Fate}
use Rattle.checks.specs.Promise.{Claimed}
use Rattle.checks.specs.Promise as checks
use Rattle.checks.proofs.Sound.{judging}
use Rattle.conflicts.specs.Marks.{marked_by, Traced}
use Rattle.conflicts.specs.Table.{Blamed, unmarked, marks_of, marking, by_verdict, rows, conflict_of}
use Rattle.conflicts.specs.Promise.{ClashOf, NoClash, RefusedRow, Exactly}
use Rattle.conflicts.proofs.Marks.{marked_traced, marks_tell}
use Rattle.conflicts.proofs.Shut.{shut_in}

module _ (c : Call) (count : ℕ) where
  abbrev verdict : Verdict
  verdict = verdict_on (jobs_of c) c.win (records c.log 0 count)

  verdict_exactly : (v : Verdict) → (verdict ≡ v) ↔ Fate c count v
  unfolding verdict_on
  verdict_exactly v = fate_exactly (trial (jobs_of c)) (asks c) (judging c) count v

  -- ---- the facts of a row give it

  pub refused_row : (k : ℕ) → checks.RefusedRow c count k → conflict_of c count ≡ unmarked k
  unfolding conflict_of rows refusal_of
  refused_row k r = general.refused_row (trial (jobs_of c)) (asks c) count unmarked (by_verdict c.log count) k r

  judged_row : Claimed c count → (v : Verdict) → Fate c count v → conflict_of c count ≡ by_verdict c.log count v
  unfolding conflict_of rows refusal_of verdict_on
  judged_row g v f =
      general.judged_row (trial (jobs_of c)) (asks c) count unmarked (by_verdict c.log count) g ∙ ap (by_verdict c.log count) ((verdict_exactly v).1 f)

  pub clash_row : (j : ℕ) → ClashOf c count j → conflict_of c count ≡ marking c.log count j
  unfolding by_verdict
  clash_row j (g, x) = judged_row g (clashes j) x

  pub no_clash_row : NoClash c count → conflict_of c count ≡ unmarked 8
  unfolding by_verdict
  no_clash_row (g, inl o) = judged_row g (holds _) (refl, o)
  no_clash_row (g, inr (i, k, f)) = judged_row g (rejected i k) f

  -- ---- and one of them is there

  pub data Case : Type 0 where
    refusing : (k : ℕ) → checks.RefusedRow c count k → Case
    clashing : (j : ℕ) → ClashOf c count j → Case
    without : NoClash c count → Case

  -- where the claimed records are there
  pub claimed_cased : Claimed c count → ((j : ℕ) × ClashOf c count j) ⊎ NoClash c count
  claimed_cased g = by verdict ((verdict_exactly verdict).0 refl)
    where
      by : (v : Verdict) → Fate c count v → ((j : ℕ) × ClashOf c count j) ⊎ NoClash c count
      by (holds U) f = inr (g, inl f.1)
      by (clashes j) f = inl (j, (g, f))
      by (rejected i k) f = inr (g, inr (i, k, f))

  pub cased : Case
  unfolding refusal_of
  cased = by_number (refusal_of c) refl
    where
      by_claimed : ((j : ℕ) × ClashOf c count j) ⊎ NoClash c count → Case
      by_claimed (inl (j, x)) = clashing j x
      by_claimed (inr n) = without n

      by_room : (b : Bool) → ltb (room_of c.log) count ≡ b → refusal_of c ≡ 0 → Case
      by_room true e q = refusing 6 (inr (refl, admitted_call (asks c) q, (room_short c.log count).0 (ltb-true _ _ e)))
      by_room false e q = by_claimed (claimed_cased (admitted_call (asks c) q, ltb-false _ _ e))

      by_number : (k : ℕ) → refusal_of c ≡ k → Case
      by_number zero e = by_room (ltb (room_of c.log) count) refl e
      by_number (suc k) e = refusing (suc k) (inl ((away_exactly (asks c) (suc k)).0 (omega arith, e)))

  -- ---- exactly when

  module _ (a : Blamed) (h : a ≡ conflict_of c count) where
    says_of : (b : Blamed) → conflict_of c count ≡ b → a.says ≡ b.says
    says_of b e = ap (λ (z : Blamed). z.says) (h ∙ e)

    set_of : (b : Blamed) → conflict_of c count ≡ b → a.set ≡ b.set
    set_of b e = ap (λ (z : Blamed). z.set) (h ∙ e)

    marking_says : (j : ℕ) → (marking c.log count j).says ≡ said Word.marked (ones_of (marking c.log count j).set ∷ [])
    unfolding marking
    marking_says j = refl

    -- the marks' own answer, of the set given
    marked_says : (j : ℕ) → ClashOf c count j → a.says ≡ said Word.marked (ones_of a.set ∷ [])
    marked_says j x =
        says_of _ (clash_row j x) ∙ marking_says j ∙ ap (λ (s : List ℕ). said Word.marked (ones_of s ∷ [])) (sym (set_of _ (clash_row j x)))

    refused_facts : (k : ℕ) → (a.says ≡ said Word.refused (k ∷ [])) ↔ RefusedRow c count k
    refused_facts k = (λ e. there e cased, back)
      where
        there : a.says ≡ said Word.refused (k ∷ []) → Case → RefusedRow c count k
        there e (refusing i r) = inl (subst (checks.RefusedRow c count) (ap (λ (z : Said). z.numbers ! 0) (sym (says_of _ (refused_row i r)) ∙ e)) r)
        there e (clashing j x) = said_apart Word.marked Word.refused _ _ (λ z. omega arith) (sym (marked_says j x) ∙ e)
        there e (without n) = inr (sym (ap (λ (z : Said). z.numbers ! 0) (sym (says_of _ (no_clash_row n)) ∙ e)), n)

        back : RefusedRow c count k → a.says ≡ said Word.refused (k ∷ [])
        back (inl r) = says_of _ (refused_row k r)
        back (inr (e, n)) = says_of _ (no_clash_row n) ∙ ap (λ (i : ℕ). said Word.refused (i ∷ [])) (sym e)

    -- marks are given for a clash alone
    pub marked_clash : a.says.word ≡ Word.marked → (j : ℕ) × ClashOf c count j
    marked_clash e = go cased
      where
        not_refused : (k : ℕ) → conflict_of c count ≡ unmarked k → ⊥
        not_refused k q = not_said Word.refused Word.marked (λ z. omega arith) (sym (ap (λ (z : Said). z.word) (says_of _ q)) ∙ e)

        go : Case → (j : ℕ) × ClashOf c count j
        go (refusing k r) = absurd (not_refused k (refused_row k r))
        go (clashing j x) = (j, x)
        go (without n) = absurd (not_refused 8 (no_clash_row n))

    marked_facts : (m : ℕ) → (a.says ≡ said Word.marked (m ∷ [])) ↔ (((j : ℕ) × ClashOf c count j) × (m ≡ ones_of a.set))
    marked_facts m = (
      λ e.
          let x = marked_clash (ap (λ (z : Said). z.word) e) in
          (x, ap (λ (z : Said). z.numbers ! 0) (sym e ∙ marked_says x.0 x.1)),
      λ x. marked_says x.0.0 x.0.1 ∙ ap (λ (i : ℕ). said Word.marked (i ∷ [])) (sym x.1),
    )

    pub set_has : (j : ℕ) → ClashOf c count j → (k : ℕ) → (has a.set k ≡ true) ↔ Traced j (records c.log 0 count) k
    unfolding marking
    set_has j (g, x) k =
        let e = ap (λ (s : List ℕ). has s k) (set_of _ (clash_row j (g, x))) ∙ marks_tell c.log count j g.1 (omega (arith, shut_in c count j x, g.0.0.few)) k in
        let t = marked_traced j (records c.log 0 count) k in
        (λ q. t.0 (sym e ∙ q), λ q. e ∙ t.1 q)

    zeros_facts : a.says.word ≡ Word.refused → a.set ≡ replicate set_words 0
    zeros_facts e = go cased
      where
        go : Case → a.set ≡ replicate set_words 0
        go (refusing k r) = set_of _ (refused_row k r)
        go (clashing j x) = absurd (not_said Word.marked Word.refused (λ z. omega arith) (sym (ap (λ (z : Said). z.word) (marked_says j x)) ∙ e))
        go (without n) = set_of _ (no_clash_row n)

    set_words_lem : (length a.set ≡ set_words) × AreWords a.set
    unfolding marking marks_of
    set_words_lem = go cased
      where
        zeros : (k : ℕ) → conflict_of c count ≡ unmarked k → (length a.set ≡ set_words) × AreWords a.set
        zeros k e = rw (set_of _ e) (length-replicate {A = ℕ} set_words 0, zeros_words set_words)

        go : Case → (length a.set ≡ set_words) × AreWords a.set
        go (refusing k r) = zeros k (refused_row k r)
        go (clashing j x) =
            let M = marked_by j (records c.log 0 count) in
            rw (set_of _ (clash_row j x)) (set_of_length set_words M, set_of_words set_words M)
        go (without n) = zeros 8 (no_clash_row n)

    pub exactly : Exactly c count a
    exactly = record { refused = refused_facts; marked = marked_facts; traced = set_has; zeros = zeros_facts; words = set_words_lem }
