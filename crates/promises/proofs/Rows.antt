-- The rows of the answer table over any rules, in facts: each is given exactly when it says so and no row before it does, and leaves what it says.
use Prim.Native.Nat.{ℕ, suc}
use native.Mathlib.Omega.{arith}
use mathlib.Core.Path.{◌≡◌, refl, sym, ap, ◌∙◌}
use mathlib.Core.List.{List, [], ◌∷◌}
use mathlib.Core.Logic.{◌⊎◌, inl, inr}
use lib.ListN.{length}
use Rattle.lists.specs.Lists.{◌!◌}
use Rattle.narrowing.specs.Windows.{Win}
use Rattle.narrowing.specs.Run.{Out, settled, clash, short, move_count}
use Rattle.answers.specs.Said.{Word, Said, said}
use Rattle.answers.proofs.Same.{not_said}
use Rattle.journal.specs.Journal.{cleared}
use Rattle.promises.specs.Ask.{Ask, Grounds, Good, Admitted}
use Rattle.promises.specs.Table.{After, ended, ran, narrowed}
use Rattle.promises.specs.Promise.{StableIn, NoneIn, needs, Room, RefusedRow, Exactly, Narrowest}
use Rattle.promises.proofs.Calls.{call_admitted, away_exactly, admitted_not_away, away_not_five}
use Rattle.promises.proofs.Cased.{Case, cased, short_five, five_short, room_count, ended_room}

-- ---- a word that was not given

abbrev num : Said → ℕ
num a = a.numbers ! 0

settled_refused : (ns ms : List ℕ) → said Word.settled ns ≡ said Word.refused ms → ⊥
settled_refused ns ms e = not_said Word.settled Word.refused (λ q. omega arith) (ap (λ (x : Said). x.word) e)

clash_refused : (ns ms : List ℕ) → said Word.clash ns ≡ said Word.refused ms → ⊥
clash_refused ns ms e = not_said Word.clash Word.refused (λ q. omega arith) (ap (λ (x : Said). x.word) e)

module _ (A : Ask) where
  module _ (x : Grounds A) (a : After) (h : a ≡ narrowed A) (l : Good A → Narrowest A a) where
    says_of : (b : After) → a ≡ b → (y : Said) → a.says ≡ y → b.says ≡ y
    says_of b e y q = sym (ap (λ (y : After). y.says) e) ∙ q

    -- refusal k: 1 to 3 or 7, or 5
    refused_row : (k : ℕ) → a.says ≡ said Word.refused (k ∷ []) → RefusedRow A k
    unfolding ended
    refused_row k e = go (cased A a h)
      where
        by_run : Admitted A → (o : Out) → ran A ≡ o → (ended A o).says ≡ said Word.refused (k ∷ []) → RefusedRow A k
        by_run g (settled U ms) d q = absurd (settled_refused _ _ q)
        by_run g (clash j ms) d q = absurd (clash_refused _ _ q)
        by_run g short d q = inr (sym (ap num q), g, short_five A x g d)

        go : Case A a → RefusedRow A k
        go (inl (i, d, q)) =
            let z : suc i ≡ k = ap num (says_of _ q _ e) in
            inl ((away_exactly A k).0 (omega arith, d ∙ z))
        go (inr (g, q)) = by_run g (ran A) refl (says_of _ q _ e)

    row_refused : (k : ℕ) → RefusedRow A k → a.says ≡ said Word.refused (k ∷ [])
    unfolding ended
    row_refused k r = go (cased A a h) r
      where
        go : Case A a → RefusedRow A k → a.says ≡ said Word.refused (k ∷ [])
        go (inl (i, d, q)) (inl t) =
            let z : suc i ≡ k = sym d ∙ ((away_exactly A k).1 t).1 in
            ap (λ (y : After). y.says) q ∙ ap (λ (m : ℕ). said Word.refused (m ∷ [])) z
        go (inl (i, d, q)) (inr (e, g, b)) = absurd (omega (arith, sym d ∙ call_admitted A g))
        go (inr (g, q)) (inl t) = absurd (admitted_not_away A g k t)
        go (inr (g, q)) (inr (e, f, b)) =
            ap (λ (y : After). y.says) q ∙ ap (λ (o : Out). (ended A o).says) (five_short A x g b) ∙ ap (λ (m : ℕ). said Word.refused (m ∷ [])) (sym e)

    -- settled and clash come from a good list with room for the work, and their count is the number of records needed
    settled_row : (n : ℕ) → a.says ≡ said Word.settled (n ∷ []) → Good A × Room A × (n ≡ needs A)
    unfolding ended
    settled_row n e = go (cased A a h)
      where
        by_run : (g : Admitted A) (o : Out) → ran A ≡ o → (ended A o).says ≡ said Word.settled (n ∷ []) → Good A × Room A × (n ≡ needs A)
        by_run g (settled U ms) d q =
            let r : Room A = ended_room A x g (λ z. let w : ◌≡◌ {A = ℕ} 0 1 = cc in omega arith) in
            (g.0, r, sym (ap num q) ∙ sym (ap (λ (o : Out). move_count o) d) ∙ room_count A x g r)
        by_run g (clash j ms) d q = absurd (not_said Word.clash Word.settled (λ z. omega arith) (ap (λ (y : Said). y.word) q))
        by_run g short d q = absurd (settled_refused _ _ (sym q))

        go : Case A a → Good A × Room A × (n ≡ needs A)
        go (inl (i, d, q)) = absurd (settled_refused _ _ (sym (says_of _ q _ e)))
        go (inr (g, q)) = by_run g (ran A) refl (says_of _ q _ e)

    clash_row : (n j : ℕ) → a.says ≡ said Word.clash (n ∷ j ∷ []) → Good A × Room A × (n ≡ needs A)
    unfolding ended
    clash_row n j e = go (cased A a h)
      where
        by_run : (g : Admitted A) (o : Out) → ran A ≡ o → (ended A o).says ≡ said Word.clash (n ∷ j ∷ []) → Good A × Room A × (n ≡ needs A)
        by_run g (settled U ms) d q = absurd (not_said Word.settled Word.clash (λ z. omega arith) (ap (λ (y : Said). y.word) q))
        by_run g (clash i ms) d q =
            let r : Room A = ended_room A x g (λ z. let w : ◌≡◌ {A = ℕ} 0 1 = cc in omega arith) in
            (g.0, r, sym (ap num q) ∙ sym (ap (λ (o : Out). move_count o) d) ∙ room_count A x g r)
        by_run g short d q = absurd (clash_refused _ _ (sym q))

        go : Case A a → Good A × Room A × (n ≡ needs A)
        go (inl (i, d, q)) = absurd (clash_refused _ _ (sym (says_of _ q _ e)))
        go (inr (g, q)) = by_run g (ran A) refl (says_of _ q _ e)

    -- a word with the numbers that it has
    numbered : Good A → Room A → ((n : ℕ) × (a.says ≡ said Word.settled (n ∷ []))) ⊎ ((n : ℕ) × (j : ℕ) × (a.says ≡ said Word.clash (n ∷ j ∷ [])))
    unfolding ended
    numbered g r = go (cased A a h)
      where
        by_run : (o : Out) → ran A ≡ o → a ≡ ended A o → ((n : ℕ) × (a.says ≡ said Word.settled (n ∷ []))) ⊎ ((n : ℕ) × (j : ℕ) × (a.says ≡ said Word.clash (n ∷ j ∷ [])))
        by_run (settled U ms) d q = inl (length ms, ap (λ (y : After). y.says) q)
        by_run (clash j ms) d q = inr (length ms, j, ap (λ (y : After). y.says) q)
        by_run short d q = absurd (omega (arith, r.1, short_five A x (g, r.0) d))

        go : Case A a → ((n : ℕ) × (a.says ≡ said Word.settled (n ∷ []))) ⊎ ((n : ℕ) × (j : ℕ) × (a.says ≡ said Word.clash (n ∷ j ∷ [])))
        go (inl (i, d, q)) = absurd (omega (arith, sym d ∙ call_admitted A (g, r.0)))
        go (inr (f, q)) = by_run (ran A) refl q

    word_of : (y : Said) → a.says ≡ y → a.says.word ≡ y.word
    word_of y e = ap (λ (y : Said). y.word) e

    settled_back : (n : ℕ) → Good A → Room A → n ≡ needs A → (U : Win) → StableIn A U → a.says ≡ said Word.settled (n ∷ [])
    settled_back n g r c U s = go (numbered g r)
      where
        go : ((m : ℕ) × (a.says ≡ said Word.settled (m ∷ []))) ⊎ ((m : ℕ) × (j : ℕ) × (a.says ≡ said Word.clash (m ∷ j ∷ []))) → a.says ≡ said Word.settled (n ∷ [])
        go (inl (m, q)) = q ∙ ap (λ (i : ℕ). said Word.settled (i ∷ [])) ((settled_row m q).2 ∙ sym c)
        go (inr (m, j, q)) = absurd (((l g).clash r).0 (word_of _ q) U s)

    clash_back : (n : ℕ) → Good A → Room A → n ≡ needs A → NoneIn A → (j : ℕ) × (a.says ≡ said Word.clash (n ∷ j ∷ []))
    clash_back n g r c f = go (numbered g r)
      where
        go : ((m : ℕ) × (a.says ≡ said Word.settled (m ∷ []))) ⊎ ((m : ℕ) × (j : ℕ) × (a.says ≡ said Word.clash (m ∷ j ∷ []))) → (j : ℕ) × (a.says ≡ said Word.clash (n ∷ j ∷ []))
        go (inl (m, q)) = let u = ((l g).exists r).0 (word_of _ q) in absurd (f u.0 u.1)
        go (inr (m, j, q)) = (j, q ∙ ap (λ (i : ℕ). said Word.clash (i ∷ j ∷ [])) ((clash_row m j q).2 ∙ sym c))

    -- ---- what the rows leave

    left_windows : (a.says.word ≡ Word.settled → ⊥) → a.win ≡ A.win
    unfolding ended
    left_windows f = go (cased A a h)
      where
        by_run : (o : Out) → a ≡ ended A o → a.win ≡ A.win
        by_run (settled U ms) q = absurd (f (ap (λ (y : After). y.says.word) q))
        by_run (clash j ms) q = ap (λ (y : After). y.win) q
        by_run short q = ap (λ (y : After). y.win) q

        go : Case A a → a.win ≡ A.win
        go (inl (i, d, q)) = ap (λ (y : After). y.win) q
        go (inr (g, q)) = by_run (ran A) q

    -- the log of refusal k
    abbrev LogOf : ℕ → Type 0
    LogOf k = ((k ≡ 5) × (a.log ≡ cleared A.log)) ⊎ ((k ≡ 5 → ⊥) × (a.log ≡ A.log))

    left_log : (k : ℕ) → a.says ≡ said Word.refused (k ∷ []) → LogOf k
    unfolding ended
    left_log k e = go (cased A a h)
      where
        by_run : (o : Out) → a ≡ ended A o → (ended A o).says ≡ said Word.refused (k ∷ []) → LogOf k
        by_run (settled U ms) q z = absurd (settled_refused _ _ z)
        by_run (clash j ms) q z = absurd (clash_refused _ _ z)
        by_run short q z = inl (sym (ap num z), ap (λ (y : After). y.log) q)

        go : Case A a → LogOf k
        go (inl (i, d, q)) =
            let z : suc i ≡ k = ap num (says_of _ q _ e) in
            inr (away_not_five A k ((away_exactly A k).0 (omega arith, d ∙ z)), ap (λ (y : After). y.log) q)
        go (inr (g, q)) = by_run (ran A) q (says_of _ q _ e)

    zeros_of : (k : ℕ) → k ≡ 5 → LogOf k → a.log ≡ cleared A.log
    zeros_of k e (inl y) = y.1
    zeros_of k e (inr y) = absurd (y.0 e)

    before_of : (k : ℕ) → (k ≡ 5 → ⊥) → LogOf k → a.log ≡ A.log
    before_of k f (inl y) = absurd (f y.0)
    before_of k f (inr y) = y.1

    pub exactly : Exactly A a
    exactly =
        record {
          refused = λ k. (refused_row k, row_refused k);
          settled = λ n. (
            λ e. let r = settled_row n e in (r.0, r.1, r.2, ((l r.0).exists r.1).0 (word_of _ e)),
            λ y. settled_back n y.0 y.1 y.2 y.3.0 y.3.1,
          );
          clash = λ n. (
            λ e. let r = clash_row n e.0 e.1 in (r.0, r.1, r.2, ((l r.0).clash r.1).0 (word_of _ e.1)),
            λ y. clash_back n y.0 y.1 y.2 y.3,
          );
          submitted = left_windows;
          zeros = λ e. zeros_of 5 refl (left_log 5 e);
          before = λ k f e. before_of k f (left_log k e);
        }
