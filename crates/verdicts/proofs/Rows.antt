-- The checker's answers over any rules, in facts: each refusal, code and answer is given exactly when document 01 says so and nothing before it does, and
-- leaves what it says.
use Prim.Native.Nat.{ℕ, zero, suc, ◌≤◌, ◌<◌}
use native.Mathlib.Omega.{arith}
use mathlib.Core.Path.{◌≡◌, refl, sym, ap, subst, ◌∙◌}
use mathlib.Core.Bool.{Bool, true, false}
use mathlib.Core.List.{[], ◌∷◌}
use mathlib.Core.Logic.{inl, inr, ◌↔◌}
use lib.Dec.{ltb}
use borrow.Author.Tests.{ltb-true, ltb-false, lt-ltb, le-ltb}
use Rattle.lists.specs.Lists.{◌!◌}
use Rattle.answers.specs.Said.{Word, Said, said}
use Rattle.answers.proofs.Same.{not_said, said_apart}
use Rattle.journal.specs.Journal.{room_of, records}
use Rattle.journal.proofs.Records.{room_short}
use Rattle.promises.specs.Ask.{Ask, job_count, lasts, Admitted, refusal_of}
use Rattle.promises.proofs.Calls.{admitted_call, call_admitted, away_refused, away_exactly, admitted_not_away}
use Rattle.verdicts.specs.Replay.{Trial, Verdict, holds, clashes, rejected, verdict_on, Checked, judged, refuses, or_six, rows_of, rows, checked}
use Rattle.verdicts.specs.Fate.{reached, Open, Shut, Fate}
use Rattle.verdicts.specs.Promise.{Judges, RefusedRow, Claimed, Exactly}
use Rattle.verdicts.proofs.Fates.{fate_exactly}

module _ (T : Trial) (A : Ask) (count : ℕ) where
  abbrev verdict : Verdict
  verdict = verdict_on T (job_count A) (lasts A) A.win (records A.log 0 count)

  -- ---- the facts of a row give it, whatever is made of a refusal and of a verdict

  module _ {X : Type 0} (refuse : ℕ → X) (judge : Verdict → X) where
    pub refused_row : (k : ℕ) → RefusedRow A count k → rows_of refuse judge T A count (refusal_of A) ≡ refuse k
    unfolding rows_of
    refused_row k (inl t) = by k (away_refused A k t) ((away_exactly A k).1 t).0
      where
        by : (m : ℕ) → refusal_of A ≡ m → 1 ≤ m → rows_of refuse judge T A count (refusal_of A) ≡ refuse m
        by zero e b = absurd (omega arith)
        by (suc m) e b = rw e
    refused_row k (inr (e, g, b)) = rw (call_admitted A g, lt-ltb (room_of A.log) count ((room_short A.log count).1 b), e)

    pub judged_row : Claimed A count → rows_of refuse judge T A count (refusal_of A) ≡ judge verdict
    unfolding rows_of
    judged_row (g, b) = rw (call_admitted A g, le-ltb (room_of A.log) count b)

  -- ---- the checker's

  -- the answer is a refusal's, 6, or the verdict's
  pub data Case (a : Checked) : Type 0 where
    tested : (k : ℕ) → refusal_of A ≡ suc k → a ≡ refuses A.win (suc k) → Case a
    six : Admitted A → room_of A.log < count → a ≡ refuses A.win 6 → Case a
    judges : Admitted A → count ≤ room_of A.log → a ≡ judged A.win count verdict → Case a

  case_six_lem : (b : Bool) → ltb (room_of A.log) count ≡ b → Admitted A → Case (or_six b (refuses A.win 6) (judged A.win count verdict))
  case_six_lem true e g = six g (ltb-true _ _ e) refl
  case_six_lem false e g = judges g (ltb-false _ _ e) refl

  case_of : (k : ℕ) → refusal_of A ≡ k → Case (rows T A count k)
  unfolding rows
  case_of zero e = case_six_lem (ltb (room_of A.log) count) refl (admitted_call A e)
  case_of (suc k) e = tested k e refl

  pub cased : (a : Checked) → a ≡ checked T A count → Case a
  unfolding checked
  cased a h = subst Case (sym h) (case_of (refusal_of A) refl)

  -- the answer where the claimed records are there
  pub claimed_judged : Claimed A count → checked T A count ≡ judged A.win count verdict
  unfolding checked rows
  claimed_judged g = judged_row (refuses A.win) (judged A.win count) g

  module _ (y : Judges T A) (a : Checked) (h : a ≡ checked T A count) where
    says_of : (b : Checked) → a ≡ b → (x : Said) → a.says ≡ x → b.says ≡ x
    says_of b e x q = sym (ap (λ (z : Checked). z.says) e) ∙ q

    -- a verdict with its facts gives its answer
    pub fate_answers : (v : Verdict) → Claimed A count → Fate T A count v → a ≡ judged A.win count v
    fate_answers v g f = h ∙ claimed_judged g ∙ ap (judged A.win count) ((fate_exactly T A y count v).1 f)

    -- an answer other than a refusal is a verdict with its facts
    verdict_of : (x : Said) → a.says ≡ x → (x.word ≡ Word.refused → ⊥) → Claimed A count × (v : Verdict) × Fate T A count v × ((judged A.win count v).says ≡ x)
    verdict_of x e f = go (cased a h)
      where
        not_refused : (k : ℕ) → a ≡ refuses A.win k → ⊥
        not_refused k q = f (sym (ap (λ (z : Said). z.word) (says_of (refuses A.win k) q x e)))

        go : Case a → Claimed A count × (v : Verdict) × Fate T A count v × ((judged A.win count v).says ≡ x)
        go (tested k d q) = absurd (not_refused (suc k) q)
        go (six g b q) = absurd (not_refused 6 q)
        go (judges g b q) = ((g, b), verdict, (fate_exactly T A y count verdict).0 refl, says_of (judged A.win count verdict) q x e)

    holds_facts : (n : ℕ) → a.says ≡ said Word.holds (n ∷ []) → Claimed A count × (n ≡ count) × Open T A count
    holds_facts n e =
        let r = verdict_of _ e (not_said Word.holds Word.refused (λ z. omega arith)) in
        let q = by r.1 r.2 r.3 in
        (r.0, q.0, q.1)
      where
        by : (v : Verdict) → Fate T A count v → (judged A.win count v).says ≡ said Word.holds (n ∷ []) → (n ≡ count) × Open T A count
        by (holds U) f q = (sym (ap (λ (z : Said). z.numbers ! 0) q), f.1)
        by (clashes j) f q = said_apart Word.clash Word.holds _ _ (λ z. omega arith) q
        by (rejected i k) f q = said_apart Word.rejected Word.holds _ _ (λ z. omega arith) q

    clash_facts : (n j : ℕ) → a.says ≡ said Word.clash (n ∷ j ∷ []) → Claimed A count × (n ≡ count) × Shut T A count j
    clash_facts n j e =
        let r = verdict_of _ e (not_said Word.clash Word.refused (λ z. omega arith)) in
        let q = by r.1 r.2 r.3 in
        (r.0, q.0, q.1)
      where
        by : (v : Verdict) → Fate T A count v → (judged A.win count v).says ≡ said Word.clash (n ∷ j ∷ []) → (n ≡ count) × Shut T A count j
        by (holds U) f q = said_apart Word.holds Word.clash _ _ (λ z. omega arith) q
        by (clashes i) f q = (sym (ap (λ (z : Said). z.numbers ! 0) q), subst (Shut T A count) (ap (λ (z : Said). z.numbers ! 1) q) f)
        by (rejected i k) f q = said_apart Word.rejected Word.clash _ _ (λ z. omega arith) q

    rejected_facts : (i k : ℕ) → a.says ≡ said Word.rejected (i ∷ k ∷ []) → Claimed A count × Fate T A count (rejected i k)
    rejected_facts i k e = let r = verdict_of _ e (not_said Word.rejected Word.refused (λ z. omega arith)) in (r.0, by r.1 r.2 r.3)
      where
        by : (v : Verdict) → Fate T A count v → (judged A.win count v).says ≡ said Word.rejected (i ∷ k ∷ []) → Fate T A count (rejected i k)
        by (holds U) f e = said_apart Word.holds Word.rejected _ _ (λ z. omega arith) e
        by (clashes j) f e = said_apart Word.clash Word.rejected _ _ (λ z. omega arith) e
        by (rejected m d) f e =
            subst (λ (x : ℕ). Fate T A count (rejected i x)) (ap (λ (z : Said). z.numbers ! 1) e)
            (subst (λ (x : ℕ). Fate T A count (rejected x d)) (ap (λ (z : Said). z.numbers ! 0) e) f)

    reached_windows : a.says.word ≡ Word.holds → a.win ≡ reached T A count
    reached_windows f = go (cased a h)
      where
        by : (v : Verdict) → Fate T A count v → a ≡ judged A.win count v → a.win ≡ reached T A count
        by (holds U) x q = ap (λ (z : Checked). z.win) q ∙ x.0
        by (clashes j) x q = absurd (not_said Word.clash Word.holds (λ z. omega arith) (sym (ap (λ (z : Checked). z.says.word) q) ∙ f))
        by (rejected i k) x q = absurd (not_said Word.rejected Word.holds (λ z. omega arith) (sym (ap (λ (z : Checked). z.says.word) q) ∙ f))

        refused_not : (k : ℕ) → a ≡ refuses A.win k → ⊥
        refused_not k q = not_said Word.refused Word.holds (λ z. omega arith) (sym (ap (λ (z : Checked). z.says.word) q) ∙ f)

        go : Case a → a.win ≡ reached T A count
        go (tested k d q) = absurd (refused_not (suc k) q)
        go (six g b q) = absurd (refused_not 6 q)
        go (judges g b q) = by verdict ((fate_exactly T A y count verdict).0 refl) q

    left_windows : (a.says.word ≡ Word.holds → ⊥) → a.win ≡ A.win
    left_windows f = go (cased a h)
      where
        by : (v : Verdict) → a ≡ judged A.win count v → a.win ≡ A.win
        by (holds U) q = absurd (f (ap (λ (z : Checked). z.says.word) q))
        by (clashes j) q = ap (λ (z : Checked). z.win) q
        by (rejected i k) q = ap (λ (z : Checked). z.win) q

        go : Case a → a.win ≡ A.win
        go (tested k d q) = ap (λ (z : Checked). z.win) q
        go (six g b q) = ap (λ (z : Checked). z.win) q
        go (judges g b q) = by verdict q

    refused_facts : (k : ℕ) → (a.says ≡ said Word.refused (k ∷ [])) ↔ RefusedRow A count k
    refused_facts k = (λ e. there e (cased a h), λ r. back r (cased a h))
      where
        word_not : (v : Verdict) → (judged A.win count v).says.word ≡ Word.refused → ⊥
        word_not (holds U) = not_said Word.holds Word.refused (λ z. omega arith)
        word_not (clashes j) = not_said Word.clash Word.refused (λ z. omega arith)
        word_not (rejected i d) = not_said Word.rejected Word.refused (λ z. omega arith)

        there : a.says ≡ said Word.refused (k ∷ []) → Case a → RefusedRow A count k
        there e (tested m d q) =
            let z : suc m ≡ k = ap (λ (z : Said). z.numbers ! 0) (says_of _ q _ e) in
            inl ((away_exactly A k).0 (omega arith, d ∙ z))
        there e (six g b q) = inr (sym (ap (λ (z : Said). z.numbers ! 0) (says_of _ q _ e)), g, (room_short A.log count).0 b)
        there e (judges g b q) = absurd (word_not verdict (ap (λ (z : Said). z.word) (says_of _ q _ e)))

        back : RefusedRow A count k → Case a → a.says ≡ said Word.refused (k ∷ [])
        back (inl t) (tested m d q) =
            let z : suc m ≡ k = sym d ∙ ((away_exactly A k).1 t).1 in
            ap (λ (z : Checked). z.says) q ∙ ap (λ (i : ℕ). said Word.refused (i ∷ [])) z
        back (inl t) (six g d q) = absurd (admitted_not_away A g k t)
        back (inl t) (judges g d q) = absurd (admitted_not_away A g k t)
        back (inr (e, g, b)) (tested m d q) = absurd (omega (arith, sym d ∙ call_admitted A g))
        back (inr (e, g, b)) (six f d q) = ap (λ (z : Checked). z.says) q ∙ ap (λ (i : ℕ). said Word.refused (i ∷ [])) (sym e)
        back (inr (e, g, b)) (judges f d q) = absurd (omega (arith, (room_short A.log count).1 b))

    pub exactly : Exactly T A count a
    exactly =
        record {
          refused = refused_facts;
          holds = λ n. (holds_facts n, λ x. says_by (holds _) x.0 (refl, x.2) ∙ ap (λ (i : ℕ). said Word.holds (i ∷ [])) (sym x.1));
          clash = λ n j. (clash_facts n j, λ x. says_by (clashes j) x.0 x.2 ∙ ap (λ (i : ℕ). said Word.clash (i ∷ j ∷ [])) (sym x.1));
          rejected = λ i k. (rejected_facts i k, λ x. says_by (rejected i k) x.0 x.1);
          reached = reached_windows;
          submitted = left_windows;
        }
      where
        says_by : (v : Verdict) → Claimed A count → Fate T A count v → a.says ≡ (judged A.win count v).says
        says_by v c f = ap (λ (z : Checked). z.says) (fate_answers v c f)
