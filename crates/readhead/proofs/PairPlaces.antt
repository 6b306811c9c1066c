-- Pairs and places. O holds all jobs that end by b, and places rise with earliest starts: b has a pair where some job, with all jobs of O from
-- its place on, exceeds b, and the last job by place that does gives the greatest a.
use Prim.Native.Nat.{ℕ, ◌+◌, ◌≤◌, ◌<◌}
use native.Mathlib.Omega.{arith}
use native.Mathlib.Decide.{dec_le}
use mathlib.Core.Path.{◌≡◌, refl}
use mathlib.Core.Bool.{true}
use mathlib.Core.List.{List}
use mathlib.Core.Logic.{◌⊎◌, inl, inr}
use borrow.Author.Tests.{leb-true, le-leb}
use Rattle.lists.specs.Lists.{◌!◌}
use Rattle.lists.specs.Sets.{Set, Sub, total_of, fewest}
use Rattle.lists.proofs.Sets.{total_of_sub, fewest_is, fewest_le}
use Rattle.narrowing.specs.Windows.{Win}
use Rattle.overloads.specs.Overload.{by, window, OverloadedPair}
use Rattle.overloads.proofs.Pairs.{in_window, window_in}
use Rattle.theta.specs.Theta.{onward}
use Rattle.theta.proofs.Nodes.{in_onward, onward_in}
use Rattle.theta.proofs.Descents.{Last}

module _ (n : ℕ) (p : List ℕ) (W : Win) (σ : ℕ → ℕ) (O : Set) (b : ℕ) (in_all : Sub n (by W b) O)
    (rising : (i j : ℕ) → i < n → j < n → σ i ≤ σ j → W.e ! i ≤ W.e ! j) where
  -- a job of O that starts at a or later and, with all jobs from its place on, exceeds b
  abbrev Exceeding : ℕ → Type 0
  Exceeding a = (i : ℕ) × (i < n) × (O i ≡ true) × (a ≤ W.e ! i) × (b < W.e ! i + total_of n p (onward σ O (σ i)))

  -- a pair's first job by place does
  pair_place : (a : ℕ) → OverloadedPair n p W a b → Exceeding a
  pair_place a q = go (fewest_is (window W a b) σ (σ q.some.0) n)
    where
      low : ℕ
      low = fewest (window W a b) σ (σ q.some.0) n

      first : (i : ℕ) → i < n → window W a b i ≡ true → low ≡ σ i → Exceeding a
      first i c t f =
          let u = window_in n p W a b i t in
          let s = total_of_sub n p (window W a b) (onward σ O (σ i))
          (λ k d r. let w = window_in n p W a b k r in
          in_onward σ O (σ i) k (in_all k d (le-leb _ _ w.1)) (omega (arith, (fewest_le (window W a b) σ (σ q.some.0) n).1 k d r))) in
          (i, c, in_all i c (le-leb _ _ u.1), u.0, omega (arith, q.over))

      go : (low ≡ σ q.some.0) ⊎ ((i : ℕ) × (i < n) × (window W a b i ≡ true) × (low ≡ σ i)) → Exceeding a
      go (inl f) = first q.some.0 q.some.1 q.some.2 f
      go (inr (i, c, t, f)) = first i c t f

  -- where no job exceeds b so, b has no pair
  pub short_none : ((i : ℕ) → i < n → O i ≡ true → W.e ! i + total_of n p (onward σ O (σ i)) ≤ b) → (a : ℕ) → OverloadedPair n p W a b → ⊥
  short_none f a q = let i = pair_place a q in omega (arith, f i.0 i.1 i.2, i.4)

  -- the last job that does so gives the greatest a
  pub last_pair : (x j : ℕ) → Last n W.e p σ O b x j → Sub n O (by W b) → (k : ℕ) → k < n → W.l ! k ≡ b → OverloadedPair n p W (W.e ! j) b
  last_pair x j L all k c f =
      record {
        start = (j, L.below, refl);
        stop = (k, c, f);
        some = (j, L.below, in_window n p W (W.e ! j) b j (omega arith) (leb-true _ _ (all j L.below L.member)));
        over = omega (
          arith,
          L.over,
          total_of_sub n p (onward σ O x) (window W (W.e ! j) b)
              (λ i d t.
              let u = onward_in σ O x i t in
              in_window n p W (W.e ! j) b i (rising j i L.below d (omega (arith, L.place))) (leb-true _ _ (all i d u.0))),
        );
      }

  pub last_greatest : (x j : ℕ) → Last n W.e p σ O b x j → (a : ℕ) → OverloadedPair n p W a b → a ≤ W.e ! j
  last_greatest x j L a q =
      let i = pair_place a q in
      elim (dec_le (σ i.0) x) [
        | yes h ↦ omega (arith, i.3, rising i.0 j i.1 L.below (omega (arith, L.place)))
        | no h ↦ absurd (omega (arith, i.4, L.after i.0 i.1 i.2 (omega arith)))
      ]
