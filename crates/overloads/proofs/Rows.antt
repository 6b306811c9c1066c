-- The definition meets the promise; from the promise alone each row of the answer table is given exactly when it says so, two answers are
-- equal, as Rattle values too, a pair is a job's earliest start and a job's latest end, and a list with a window that is too short gets one.
use Prim.Native.Nat.{ℕ, zero, suc, ◌+◌, ◌≤◌, ◌<◌}
use native.Mathlib.Omega.{arith}
use mathlib.Core.Path.{◌≡◌, refl, sym, ap, subst, ◌∙◌}
use mathlib.Core.List.{List, [], ◌∷◌}
use mathlib.Core.Logic.{◌⊎◌, inl, inr, ◌↔◌}
use lib.Dec.{eqb}
use Rattle.std.specs.Prelude.{Option, Result}
use Rattle.answers.specs.declared.Overload.{Overload}
use Rattle.answers.specs.declared.reasons.Refusal.{Refusal}
use Rattle.answers.specs.Said.{Word, Said, said, says_overload}
use Rattle.answers.proofs.Same.{overload_same, said_apart}
use Rattle.joblist.specs.GoodList.{Given, refusal}
use Rattle.joblist.specs.Limits.{jobs, three_lists}
use Rattle.joblist.proofs.Refusals.{refusal_exactly, good, refused_none}
use Rattle.lists.specs.Lists.{◌!◌}
use Rattle.narrowing.specs.Windows.{Win}
use Rattle.overloads.specs.Overload.{NoneOverloaded, FirstPair, Finding, nothing, overload, found_said, Finds}
use Rattle.overloads.specs.Promise.{Good, refusal_of, tabled, overload_said, Overloads}
use Rattle.overloads.proofs.Pairs.{overload_finds, overload_is, none_sets, none_pairs, first_bounds, alone_overloaded, pair_apart}

same_pair : (a b x y : ℕ) → said Word.overload (a ∷ b ∷ []) ≡ said Word.overload (x ∷ y ∷ []) → (a ≡ x) × (b ≡ y)
same_pair a b x y e = (ap (λ (s : Said). s.numbers ! 0) e, ap (λ (s : Said). s.numbers ! 1) e)

module _ (W : Win) (p : List ℕ) where
  is_good : refusal_of W p ≡ 0 → Good W p
  unfolding refusal_of
  is_good h = good (jobs W) (three_lists W p) [] h

  good_is : Good W p → refusal_of W p ≡ 0
  unfolding refusal_of
  good_is g = refused_none (jobs W) (three_lists W p) [] g

  -- the answer is a refusal's, or what is found
  abbrev Case : Said → Type 0
  Case a = ((k : ℕ) × (refusal_of W p ≡ suc k) × (a ≡ said Word.refused (suc k ∷ []))) ⊎ (Good W p × ((x : Finding) × Finds (jobs W) p W x × (a ≡ found_said x)))

  cased : (k : ℕ) → refusal_of W p ≡ k → Case (tabled W p k)
  unfolding tabled
  cased zero e = inr (is_good e, (overload (jobs W) p W, overload_finds (jobs W) p W, refl))
  cased (suc k) e = inl (k, e, refl)

  case_of : Case (overload_said W p)
  unfolding overload_said
  case_of = cased (refusal_of W p) refl

  -- of a good list the answer is what is found
  found : Good W p → overload_said W p ≡ found_said (overload (jobs W) p W)
  unfolding overload_said tabled
  found g = ap (tabled W p) (good_is g)

  none_row : overload_said W p ≡ said Word.none [] → Good W p × NoneOverloaded (jobs W) p W
  none_row e = go case_of
    where
      by : (x : Finding) → Finds (jobs W) p W x → said Word.none [] ≡ found_said x → NoneOverloaded (jobs W) p W
      by nothing f q = none_sets (jobs W) p W f
      by (Finding.pair a b) f q = said_apart Word.none Word.overload [] (a ∷ b ∷ []) (λ z. omega arith) q

      go : Case (overload_said W p) → Good W p × NoneOverloaded (jobs W) p W
      go (inl (k, d, q)) = said_apart Word.none Word.refused [] (suc k ∷ []) (λ z. omega arith) (sym e ∙ q)
      go (inr (g, (x, f, q))) = (g, by x f (sym e ∙ q))

  row-none : Good W p × NoneOverloaded (jobs W) p W → overload_said W p ≡ said Word.none []
  row-none (g, f) = found g ∙ ap found_said (sym (overload_is (jobs W) p W nothing (none_pairs (jobs W) p W f)))

  pair_row : (x y : ℕ) → overload_said W p ≡ said Word.overload (x ∷ y ∷ []) → Good W p × FirstPair (jobs W) p W x y
  pair_row x y e = go case_of
    where
      by : (z : Finding) → Finds (jobs W) p W z → said Word.overload (x ∷ y ∷ []) ≡ found_said z → FirstPair (jobs W) p W x y
      by nothing f q = said_apart Word.overload Word.none (x ∷ y ∷ []) [] (λ z. omega arith) q
      by (Finding.pair a b) f q = let s = same_pair x y a b q in rw (s.0, s.1) f

      go : Case (overload_said W p) → Good W p × FirstPair (jobs W) p W x y
      go (inl (k, d, q)) = said_apart Word.overload Word.refused (x ∷ y ∷ []) (suc k ∷ []) (λ z. omega arith) (sym e ∙ q)
      go (inr (g, (z, f, q))) = (g, by z f (sym e ∙ q))

  row_pair : (x y : ℕ) → Good W p × FirstPair (jobs W) p W x y → overload_said W p ≡ said Word.overload (x ∷ y ∷ [])
  row_pair x y (g, f) = found g ∙ ap found_said (sym (overload_is (jobs W) p W (Finding.pair x y) f))

  -- refusal k is given exactly when its row says so and no row before it does
  refused_row : (k : ℕ) → (overload_said W p ≡ said Word.refused (k ∷ [])) ↔ ((1 ≤ k) × Given k (jobs W) (three_lists W p) [])
  unfolding refusal_of
  refused_row k = (λ e. to e case_of, from)
    where
      to : overload_said W p ≡ said Word.refused (k ∷ []) → Case (overload_said W p) → (1 ≤ k) × Given k (jobs W) (three_lists W p) []
      to e (inl (i, d, q)) =
          let z : k ≡ suc i = ap (λ (s : Said). s.numbers ! 0) (sym e ∙ q) in
          (omega arith, (refusal_exactly (jobs W) (three_lists W p) [] k).0 (d ∙ sym z))
      to e (inr (g, (nothing, f, q))) = said_apart Word.refused Word.none (k ∷ []) [] (λ z. omega arith) (sym e ∙ q)
      to e (inr (g, (Finding.pair x y, f, q))) = said_apart Word.refused Word.overload (k ∷ []) (x ∷ y ∷ []) (λ z. omega arith) (sym e ∙ q)

      from : (1 ≤ k) × Given k (jobs W) (three_lists W p) [] → overload_said W p ≡ said Word.refused (k ∷ [])
      from (b, t) = by case_of
        where
          r : refusal (jobs W) (three_lists W p) [] ≡ k
          r = (refusal_exactly (jobs W) (three_lists W p) [] k).1 t

          by : Case (overload_said W p) → overload_said W p ≡ said Word.refused (k ∷ [])
          by (inl (i, d, q)) = q ∙ ap (λ (m : ℕ). said Word.refused (m ∷ [])) (sym d ∙ r)
          by (inr (g, c)) = absurd (omega (arith, r, good_is g))

  -- what the definition says meets the promise
  pub overloads : Overloads W p (overload_said W p)
  overloads =
      record {
        answered = refl;
        refused = refused_row;
        none = (none_row, row-none);
        pair = λ x y. (pair_row x y, row_pair x y);
        bounds = λ x y e. first_bounds (jobs W) p W x y (pair_row x y e).1;
        rising = λ L x y e. pair_apart (jobs W) p W L x y (pair_row x y e).1.pair;
      }

  -- and so do a refusal's number, and the finding of a good list
  pub refused_meets : (k : ℕ) → k ≡ refusal (jobs W) (three_lists W p) [] → (k ≡ 0 → ⊥) → Overloads W p (said Word.refused (k ∷ []))
  unfolding overload_said tabled refusal_of
  refused_meets zero e d = absurd (d refl)
  refused_meets (suc k) e d = subst (Overloads W p) (ap (tabled W p) (sym e)) overloads

  pub found_meets : Good W p → Overloads W p (found_said (overload (jobs W) p W))
  found_meets g = subst (Overloads W p) (found g) overloads

  module _ (a : Said) (h : Overloads W p a) where
    -- of a good list the answer is one of the other two
    pub decided : Good W p → (a ≡ said Word.none []) ⊎ ((x : ℕ) × (y : ℕ) × (a ≡ said Word.overload (x ∷ y ∷ [])))
    decided g = go (overload (jobs W) p W) refl
      where
        go : (z : Finding) → overload (jobs W) p W ≡ z → (a ≡ said Word.none []) ⊎ ((x : ℕ) × (y : ℕ) × (a ≡ said Word.overload (x ∷ y ∷ [])))
        go nothing e = inl (h.answered ∙ found g ∙ ap found_said e)
        go (Finding.pair x y) e = inr (x, y, h.answered ∙ found g ∙ ap found_said e)

    -- a good list with a window that is too short gets a pair
    pub too_short_found : Good W p → (j : ℕ) → j < jobs W → W.l ! j < W.e ! j + p ! j → (x : ℕ) × (y : ℕ) × (a ≡ said Word.overload (x ∷ y ∷ []))
    too_short_found g j b s = go (decided g)
      where
        go : (a ≡ said Word.none []) ⊎ ((x : ℕ) × (y : ℕ) × (a ≡ said Word.overload (x ∷ y ∷ []))) → (x : ℕ) × (y : ℕ) × (a ≡ said Word.overload (x ∷ y ∷ []))
        go (inl e) = absurd ((h.none.0 e).1 (λ k. eqb k j) (alone_overloaded (jobs W) p W j b s))
        go (inr z) = z

    -- a pair is the earliest start of a job and the latest end of a job
    pub pair_jobs : (x y : ℕ) → a ≡ said Word.overload (x ∷ y ∷ []) → ((i : ℕ) × (i < jobs W) × (W.e ! i ≡ x)) × ((i : ℕ) × (i < jobs W) × (W.l ! i ≡ y))
    pair_jobs x y e = let q = ((h.pair x y).0 e).1.pair in (q.start, q.stop)

  -- two answers that meet the promise are equal
  pub overloads_same : (a b : Said) → Overloads W p a → Overloads W p b → a ≡ b
  overloads_same a b f g = f.answered ∙ sym g.answered

  pub answers_same : (r q : Result (Option Overload) Refusal) → Overloads W p (says_overload r) → Overloads W p (says_overload q) → r ≡ q
  answers_same r q f g = overload_same r q (overloads_same (says_overload r) (says_overload q) f g)
