-- Laws over the contract of a call without a log and without numbers: it leaves one answer; settled and clash are given exactly when they say so; demand 2;
-- the same jobs in another order, and other rules to which the same windows are stable, get the same; settled windows settle again.
use Prim.Native.Nat.{ℕ, zero, suc, ◌+◌, ◌≤◌, ◌<◌}
use native.Mathlib.Omega.{arith}
use mathlib.Core.Path.{◌≡◌, refl, sym, ap, ◌∙◌}
use mathlib.Core.List.{List, [], ◌∷◌}
use mathlib.Core.Logic.{◌⊎◌, inl, inr, ◌↔◌}
use Rattle.lists.specs.Lists.{◌!◌}
use Rattle.narrowing.specs.Windows.{Win}
use Rattle.narrowing.specs.Rules.{Candidate, NoCandidate}
use Rattle.narrowing.specs.Schedules.{Schedule, Sound, Exact}
use Rattle.narrowing.proofs.Steps.{largest_step}
use Rattle.narrowing.proofs.Schedules.{step_schedule, none_schedule, fixed_settled, fixed_clash}
use Rattle.narrowing.proofs.Firm.{not_both, same_windows}
use Rattle.answers.specs.Said.{Word, Said, said}
use Rattle.answers.proofs.Same.{not_said}
use Rattle.joblist.specs.GoodList.{Given, refusal}
use Rattle.joblist.proofs.Refusals.{refusal_exactly}
use Rattle.promises.specs.Plain.{Task, columns, GoodTask, Left, Plain}

module _ (K : Task) where
  -- a list is good, or refused by a number
  pub good_or_refused : GoodTask K ⊎ ((k : ℕ) × (1 ≤ k) × Given k K.n (columns K) K.alone)
  good_or_refused = go (refusal K.n (columns K) K.alone) refl
    where
      go : (k : ℕ) → refusal K.n (columns K) K.alone ≡ k → GoodTask K ⊎ ((k : ℕ) × (1 ≤ k) × Given k K.n (columns K) K.alone)
      go zero e = inl ((refusal_exactly K.n (columns K) K.alone 0).0 e)
      go (suc k) e = inr (suc k, omega arith, (refusal_exactly K.n (columns K) K.alone (suc k)).0 e)

  module _ (a : Left) (h : Plain K a) where
    word_of : (x : Said) → a.says ≡ x → a.says.word ≡ x.word
    word_of x e = ap (λ (y : Said). y.word) e

    pub settled_exactly : (a.says ≡ said Word.settled []) ↔ (GoodTask K × ((U : Win) × Candidate K.n K.p K.rules K.win U))
    settled_exactly = (λ e. let r = h.settled (word_of _ e) in (r.0, (a.win, r.1.one)), λ x. back x (h.decided x.0))
      where
        back : GoodTask K × ((U : Win) × Candidate K.n K.p K.rules K.win U) → (a.says ≡ said Word.settled []) ⊎ (a.says ≡ said Word.clash [])
            → a.says ≡ said Word.settled []
        back x (inl e) = e
        back x (inr e) = absurd ((h.clash (word_of _ e)).1 x.1.0 x.1.1)

    pub clash_exactly : (a.says ≡ said Word.clash []) ↔ (GoodTask K × NoCandidate K.n K.p K.rules K.win)
    clash_exactly = (λ e. h.clash (word_of _ e), λ x. back x (h.decided x.0))
      where
        back : GoodTask K × NoCandidate K.n K.p K.rules K.win → (a.says ≡ said Word.settled []) ⊎ (a.says ≡ said Word.clash []) → a.says ≡ said Word.clash []
        back x (inl e) = absurd (not_both K.n K.p K.rules K.win a.win (h.settled (word_of _ e)).1 x.1)
        back x (inr e) = e

    -- ---- demand 2

    module _ (fits : List ℕ → Type 0) where
      pub kept : Sound K.n K.p K.rules fits → a.says.word ≡ Word.settled → (s : List ℕ) → Schedule K.n K.p fits K.win s
          → Schedule K.n K.p fits a.win s
      kept x e s f =
          step_schedule K.n K.p K.rules fits x K.win a.win
          (largest_step K.n K.p K.rules K.win a.win (h.settled e).1) s f

      pub none : Sound K.n K.p K.rules fits → a.says.word ≡ Word.clash → (s : List ℕ) → Schedule K.n K.p fits K.win s → ⊥
      none x e s f = none_schedule K.n K.p K.rules fits x K.win (h.clash e).1 s f

      -- where every job of a good list is fixed, clash exactly if the starts do not fit
      pub fixed : Exact K.n K.p K.rules fits → GoodTask K → ((k : ℕ) → k < K.n → K.win.l ! k ≡ K.win.e ! k + K.p ! k)
          → (a.says ≡ said Word.clash []) ↔ (fits K.win.e → ⊥)
      fixed x g f = (λ e. fixed_clash K.n K.p K.rules fits x K.win f (h.clash (word_of _ e)).1, λ q. back q (h.decided g))
        where
          back : (fits K.win.e → ⊥) → (a.says ≡ said Word.settled []) ⊎ (a.says ≡ said Word.clash []) → a.says ≡ said Word.clash []
          back q (inl e) = absurd (q (fixed_settled K.n K.p K.rules fits x K.win f a.win (h.settled (word_of _ e)).1))
          back q (inr e) = e

  -- ---- firmness: two results that meet the contract are equal, answer and windows

  module _ (a b : Left) (f : Plain K a) (g : Plain K b) where
    not_settled : (x : Said) → (x.word ≡ Word.settled → ⊥) → (c : Left) → c.says ≡ x → c.says.word ≡ Word.settled → ⊥
    not_settled x d c e q = d (sym (ap (λ (y : Said). y.word) e) ∙ q)

    unmoved : (x : Said) → (x.word ≡ Word.settled → ⊥) → a.says ≡ x → b.says ≡ x → (a.says ≡ b.says) × (a.win.e ≡ b.win.e) × (a.win.l ≡ b.win.l)
    unmoved x d p q =
        let w = f.submitted (not_settled x d a p) ∙ sym (g.submitted (not_settled x d b q)) in
        (p ∙ sym q, ap (λ (W : Win). W.e) w, ap (λ (W : Win). W.l) w)

    pub plain_firm : (a.says ≡ b.says) × (a.win.e ≡ b.win.e) × (a.win.l ≡ b.win.l)
    plain_firm = go good_or_refused
      where
        both : GoodTask K → (a.says ≡ said Word.settled []) ⊎ (a.says ≡ said Word.clash []) → (b.says ≡ said Word.settled []) ⊎ (b.says ≡ said Word.clash [])
            → (a.says ≡ b.says) × (a.win.e ≡ b.win.e) × (a.win.l ≡ b.win.l)
        both s (inl p) (inl q) =
            let u = (f.settled (word_of a f _ p)).1 in
            let v = (g.settled (word_of b g _ q)).1 in
            let w =
            same_windows K.n K.p K.rules K.win a.win b.win (f.lengths.early ∙ s.sized.0) (f.lengths.late ∙ s.sized.1.0)
            (g.lengths.early ∙ s.sized.0) (g.lengths.late ∙ s.sized.1.0) u v in
            (p ∙ sym q, w.0, w.1)
        both s (inl p) (inr q) = absurd (not_both K.n K.p K.rules K.win a.win (f.settled (word_of a f _ p)).1 (g.clash (word_of b g _ q)).1)
        both s (inr p) (inl q) = absurd (not_both K.n K.p K.rules K.win b.win (g.settled (word_of b g _ q)).1 (f.clash (word_of a f _ p)).1)
        both s (inr p) (inr q) = unmoved (said Word.clash []) (not_said Word.clash Word.settled (λ z. omega arith)) p q

        go : GoodTask K ⊎ ((k : ℕ) × (1 ≤ k) × Given k K.n (columns K) K.alone) → (a.says ≡ b.says) × (a.win.e ≡ b.win.e) × (a.win.l ≡ b.win.l)
        go (inl s) = both s (f.decided s) (g.decided s)
        go (inr (k, i, x)) =
            unmoved (said Word.refused (k ∷ [])) (not_said Word.refused Word.settled (λ z. omega arith)) ((f.refused k).1 (i, x)) ((g.refused k).1 (i, x))
