-- The rules do not depend on the numbering of the jobs: a set that moves a job moves it under its other number, with the same bound.
use Prim.Native.Nat.{ℕ, ◌<◌}
use native.Mathlib.Omega.{arith}
use mathlib.Core.Path.{◌≡◌, refl, sym, ap, ◌∙◌}
use mathlib.Core.Bool.{true}
use mathlib.Core.List.{List}
use Rattle.lists.specs.Lists.{◌!◌}
use Rattle.lists.specs.Tests.{only}
use Rattle.lists.specs.Sets.{Set, total_of, LeastOf, GreatestOf, Ends}
use Rattle.lists.specs.Bounds.{Begins}
use Rattle.lists.specs.Permutations.{Permutes, SameList}
use Rattle.lists.proofs.Sums.{total_cong}
use Rattle.lists.proofs.Permutations.{total_turn}
use Rattle.narrowing.specs.Windows.{Win, Side, early, late}
use Rattle.narrowing.specs.Renumbered.{SameWin, Alike}
use Rattle.heads.specs.Precedences.{ComesFirst, Detects}

-- the set of the old list's jobs
abbrev back : (ℕ → ℕ) → Set → Set
back σ T k = T (σ k)

module _ (n : ℕ) (π σ : ℕ → ℕ) (h : Permutes n π σ) where
  total_of_back : (p q : List ℕ) → SameList n π p q → (T : Set) → total_of n p (back σ T) ≡ total_of n q T
  unfolding total_of
  total_of_back p q d T = sym (total_turn n π σ h (λ k. only (T (σ k)) (p ! k))) ∙ total_cong _ _ n (λ k b. rw (h.there k b, d k b))

  member_same : (T : Set) (k : ℕ) → k < n → T k ≡ true → T (σ (π k)) ≡ true
  member_same T k b t = rw (h.there k b) t

  -- an old job k is the new job σ k
  at_old : (x y : List ℕ) → SameList n π x y → (k : ℕ) → k < n → y ! σ k ≡ x ! k
  at_old x y v k b = v (σ k) (h.onto k b) ∙ ap (λ (i : ℕ). x ! i) (h.back k b)

  least_same : (x y : List ℕ) → SameList n π x y → (T : Set) (a : ℕ) → LeastOf n y T a → LeastOf n x (back σ T) a
  least_same x y d T a l =
      record {
        at = π l.at;
        below = h.into l.at l.below;
        member = member_same T l.at l.below l.member;
        is = sym (d l.at l.below) ∙ l.is;
        least = λ k b t. omega (arith, l.least (σ k) (h.onto k b) t, at_old x y d k b);
      }

  greatest_same : (x y : List ℕ) → SameList n π x y → (T : Set) (a : ℕ) → GreatestOf n y T a → GreatestOf n x (back σ T) a
  greatest_same x y d T a l =
      record {
        at = π l.at;
        below = h.into l.at l.below;
        member = member_same T l.at l.below l.member;
        is = sym (d l.at l.below) ∙ l.is;
        greatest = λ k b t. omega (arith, l.greatest (σ k) (h.onto k b) t, at_old x y d k b);
      }

  module _ (p q : List ℕ) (d : SameList n π p q) where
    ends_same : (x y : List ℕ) → SameList n π x y → (T : Set) (b : ℕ) → Ends n y q T b → Ends n x p (back σ T) b
    ends_same x y v T b g = record { from = g.from; least = least_same x y v T g.from g.least; is = omega (arith, total_of_back p q d T, g.is) }

    begins_same : (x y : List ℕ) → SameList n π x y → (T : Set) (b : ℕ) → Begins n y q T b → Begins n x p (back σ T) b
    begins_same x y v T b g =
        record { upto = g.upto; greatest = greatest_same x y v T g.upto g.greatest; is = omega (arith, total_of_back p q d T, g.is) }

    module _ (W U : Win) (v : SameWin n π W U) where
      -- of new jobs j and i, where the old ones are k and m
      first-same : (j i k m : ℕ) → k < n → m < n → σ k ≡ j → σ m ≡ i → ComesFirst q U j i → ComesFirst p W k m
      first-same j i k m b c e g f =
          let y : (x z : List ℕ) → SameList n π x z → z ! j ≡ x ! k = λ x z w. rw (← e) (at_old x z w k b) in
          let r : (x z : List ℕ) → SameList n π x z → z ! i ≡ x ! m = λ x z w. rw (← g) (at_old x z w m c) in
          record {
            other = λ s. f.other (sym e ∙ ap σ s ∙ g);
            lasts_j = omega (arith, y p q d, f.lasts_j);
            lasts_i = omega (arith, r p q d, f.lasts_i);
            exceeds = omega (arith, y p q d, r p q d, y W.l U.l v.late, r W.e U.e v.early, f.exceeds);
          }

      detect_old : (j : ℕ) (s : Side) (b : ℕ) → j < n → Detects n q U j s b → Detects n p W (π j) s b
      detect_old j early b c a =
          record {
            T = back σ a.T;
            first = λ k e t. first-same (σ k) j k (π j) e (h.into j c) refl (h.there j c) (a.first (σ k) (h.onto k e) t);
            ends = ends_same W.e U.e v.early a.T b a.ends;
            tightens = omega (arith, v.early j c, a.tightens);
          }
      detect_old j late b c a =
          record {
            T = back σ a.T;
            last = λ k e t. first-same j (σ k) (π j) k (h.into j c) e (h.there j c) refl (a.last (σ k) (h.onto k e) t);
            begins = begins_same W.l U.l v.late a.T b a.begins;
            tightens = omega (arith, v.late j c, a.tightens);
          }

    pub detect_alike : Alike n π (Detects n p) (Detects n q)
    unfolding Alike
    detect_alike W U v j s b c a = detect_old W U v j s b c a
