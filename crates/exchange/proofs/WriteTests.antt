-- The writer's tests in facts: a call meets one of them alone; two results are equal; and an answer is given exactly when the table says so.
use Prim.Native.Nat.{ℕ, zero, suc}
use native.Mathlib.Omega.{arith}
use mathlib.Core.Path.{◌≡◌, refl, sym, ap, ◌∙◌, subst}
use mathlib.Core.List.{List, [], ◌∷◌}
use mathlib.Core.Logic.{inl, inr, ◌↔◌}
use lib.ListN.{length}
use Rattle.lists.specs.Lists.{◌!◌}
use Rattle.answers.specs.Said.{Word, Said, said, says_write}
use Rattle.std.specs.Prelude.{Result}
use Rattle.answers.specs.declared.reasons.Refusal.{Refusal}
use Rattle.answers.proofs.Same.{not_said, said_apart, write_same}
use Rattle.joblist.specs.GoodList.{GoodList, Given, refusal}
use Rattle.joblist.proofs.Refusals.{sized_judged, limits_judged, refusal_exactly}
use Rattle.chains.proofs.Listed.{rising_one}
use Rattle.exchange.specs.Write.{WriteCall, WriteAfter, write_columns, alone, PairsTested, WriteRefusal, write_leaves, WriteAnswered, Writes}
use Rattle.exchange.proofs.Tests.{Alone, unless_alone, none_alone}

-- ---- one number alone

module _ (c : WriteCall) where
  abbrev n : ℕ
  n = length c.dur

  pairs_alone : Alone (PairsTested c)
  pairs_alone =
      unless_alone _ _ _ _ (λ f g. g f)
      (unless_alone _ _ _ _ (rising_one n c.jobs c.successors)
      (unless_alone _ _ _ _ (λ f g. f g)
      (unless_alone _ _ _ _ (λ f g. omega arith) none_alone)))

  pub write_refusal_one : (j k : ℕ) → WriteRefusal c j → WriteRefusal c k → j ≡ k
  write_refusal_one =
      unless_alone _ _ _ _ (sized_judged n (write_columns c)).apart
      (unless_alone _ _ _ _ (λ f g. omega arith)
      (unless_alone _ _ _ _ (limits_judged (write_columns c) (alone c)).apart pairs_alone))

  -- ---- from the tests of the lists

  pub by_lists : (k : ℕ) → (k ≡ 0 → ⊥) → k ≡ refusal n (write_columns c) (alone c) → WriteRefusal c k
  by_lists k f e = go k f ((refusal_exactly n (write_columns c) (alone c) k).0 (sym e))
    where
      go : (k : ℕ) → (k ≡ 0 → ⊥) → Given k n (write_columns c) (alone c) → WriteRefusal c k
      go zero h g = absurd (h refl)
      go (suc zero) h g = inl (g, refl)
      go (suc (suc zero)) h g = inr (g.0, inl (g.1, refl))
      go (suc (suc (suc zero))) h g = inr (g.0, inr (g.1, inl (g.2, refl)))
      go (suc (suc (suc (suc k)))) h g = absurd g

  pub good_lists : 0 ≡ refusal n (write_columns c) (alone c) → GoodList n (write_columns c) (alone c)
  good_lists e = (refusal_exactly n (write_columns c) (alone c) 0).0 (sym e)

  pub behind_lists : (k : ℕ) → GoodList n (write_columns c) (alone c) → PairsTested c k → WriteRefusal c k
  behind_lists k g t = inr (g.sized, inr (g.few, inr ((g.within, g.beside), t)))

-- ---- two results are equal

pub write_answered_one : (c : WriteCall) (a b : WriteAfter) → WriteAnswered c a → WriteAnswered c b → a ≡ b
write_answered_one c a b p q = p.leaves ∙ ap (write_leaves c) (write_refusal_one c p.number q.number p.refusal q.refusal) ∙ sym q.leaves

pub writes_one : (c : WriteCall) (a b : WriteAfter) → Writes c a → Writes c b → a ≡ b
writes_one c a b p q = write_answered_one c a b p.answered q.answered

-- as Rattle values, with the buffers that they leave
pub write_results_one : (c : WriteCall) (r s : Result ℕ Refusal) (A B : List ℕ) → Writes c (record { says = says_write r; buffer = A }) → Writes c (record { says = says_write s; buffer = B })
    → (r ≡ s) × (A ≡ B)
write_results_one c r s A B p q =
    let e = writes_one c (record { says = says_write r; buffer = A }) (record { says = says_write s; buffer = B }) p q in
    (write_same r s (ap (λ (y : WriteAfter). y.says) e), ap (λ (y : WriteAfter). y.buffer) e)

-- ---- each answer exactly when

module _ (c : WriteCall) (a : WriteAfter) (r : WriteAnswered c a) where
  pub left_by : (k : ℕ) → WriteRefusal c k → a ≡ write_leaves c k
  left_by k t = r.leaves ∙ ap (write_leaves c) (write_refusal_one c r.number k r.refusal t)

  pub write_refused_exactly : (k : ℕ) → (a.says ≡ said Word.refused (suc k ∷ [])) ↔ WriteRefusal c (suc k)
  write_refused_exactly k = (to r.number r.refusal r.leaves, λ t. ap (λ (y : WriteAfter). y.says) (left_by (suc k) t))
    where
      to : (j : ℕ) → WriteRefusal c j → a ≡ write_leaves c j → a.says ≡ said Word.refused (suc k ∷ []) → WriteRefusal c (suc k)
      to zero t l e = said_apart Word.written Word.refused _ _ (λ z. omega arith) (sym (ap (λ (y : WriteAfter). y.says) l) ∙ e)
      to (suc j) t l e =
          let q : suc j ≡ suc k = ap (λ (y : Said). y.numbers ! 0) (sym (ap (λ (y : WriteAfter). y.says) l) ∙ e) in
          subst (WriteRefusal c) q t

  pub written_exactly : (a.says.word ≡ Word.written) ↔ WriteRefusal c 0
  written_exactly = (to r.number r.refusal r.leaves, λ t. ap (λ (y : WriteAfter). y.says.word) (left_by 0 t))
    where
      to : (j : ℕ) → WriteRefusal c j → a ≡ write_leaves c j → a.says.word ≡ Word.written → WriteRefusal c 0
      to zero t l e = t
      to (suc j) t l e = absurd (not_said Word.refused Word.written (λ z. omega arith) (sym (ap (λ (y : WriteAfter). y.says.word) l) ∙ e))
