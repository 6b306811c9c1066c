-- Side 1 is side 0 of the windows mirrored in time: the search gives the mirrored choice.
use Prim.Native.Nat.{ℕ, ◌+◌, ◌-◌, ◌≤◌, ◌<◌}
use native.Mathlib.Omega.{arith}
use native.Mathlib.Decide.{dec_lt}
use mathlib.Core.Path.{◌≡◌, sym, ap}
use mathlib.Core.Bool.{true}
use mathlib.Core.List.{List}
use mathlib.Core.Logic.{◌⊎◌, inl, inr}
use mathlib.Core.Option.{some}
use lib.Dec.{leb, ltb}
use borrow.Author.Tests.{leb-true, le-leb, lt-ltb, le-ltb}
use Rattle.lists.specs.Lists.{◌!◌}
use Rattle.lists.specs.Sets.{Set, Sub, above, most, fewest}
use Rattle.lists.specs.Bounds.{lead, under, end_of, start_of, latest, soonest}
use Rattle.lists.proofs.Tests.{both_true, true_both}
use Rattle.lists.proofs.Sets.{total_of_same, most_is, most_le, fewest_is, fewest_le}
use Rattle.lists.proofs.Bounds.{lead_all}
use Rattle.narrowing.specs.Windows.{Win, early, late}
use Rattle.heads.specs.Precedences.{ComesFirst}
use Rattle.heads.specs.Search.{firsts, nexts, early_bound, late_bound, when, detect}
use Rattle.heads.specs.Mirror.{Mirror, less_from}
use Rattle.heads.proofs.Search.{first_yes, yes_first}

-- mirrored twice they are as they were
mirror_back : (n K : ℕ) (W U : Win) → Mirror n K W U → Mirror n K U W
mirror_back n K W U v = record { early = λ k b. omega (arith, v.late k b); late = λ k b. omega (arith, v.early k b) }

-- what comes first in one comes last in the other
first_mirror : (n K : ℕ) (p : List ℕ) (W U : Win) → Mirror n K W U → (j i : ℕ) → j < n → i < n → ComesFirst p U j i → ComesFirst p W i j
first_mirror n K p W U v j i b c f =
    record { other = λ q. f.other (sym q); lasts_j = f.lasts_i; lasts_i = f.lasts_j; exceeds = omega (arith, f.exceeds, v.late j b, v.early i c) }

module _ (n K : ℕ) (p : List ℕ) (W U : Win) (v : Mirror n K W U) where
  module _ (i : ℕ) (h : i < n) where
    abbrev F : Set
    F = firsts p U i

    abbrev L : Set
    L = nexts p W i

    to_first : Sub n L F
    to_first k b t = yes_first p U k i (first_mirror n K p U W (mirror_back n K W U v) i k h b (first_yes p W i k t))

    to_last : Sub n F L
    to_last k b t = yes_first p W i k (first_mirror n K p W U v k i b h (first_yes p U k i t))

    -- a job's two thresholds are mirrored
    thresholds : (k : ℕ) → k < n → end_of n U.e p F k + start_of n W.l p L k ≡ K + lead n p
    thresholds k b =
        omega (
          arith,
          v.early k b,
          lead_all n p (under W.l L (W.l ! k)),
          total_of_same n p (above U.e F (U.e ! k)) (under W.l L (W.l ! k))
              (λ j c t.
              let x = both_true (F j) (leb (U.e ! k) (U.e ! j)) t in
              true_both (L j) (leb (W.l ! j) (W.l ! k)) (to_last j c x.0) (le-leb (W.l ! j) (W.l ! k) (omega (arith, leb-true (U.e ! k) (U.e ! j) x.1, v.early j c, v.early k b))))
              (λ j c t.
              let x = both_true (L j) (leb (W.l ! j) (W.l ! k)) t in
              true_both (F j) (leb (U.e ! k) (U.e ! j)) (to_first j c x.0) (le-leb (U.e ! k) (U.e ! j) (omega (arith, leb-true (W.l ! j) (W.l ! k) x.1, v.early j c, v.early k b)))),
        )

    -- the bounds are mirrored, unless the mirrored one does not tighten
    bounds : ((U.e ! i < early_bound n p U i) × (late_bound n p W i < W.l ! i + lead n p) × (late_bound n p W i ≡ K + lead n p - early_bound n p U i))
        ⊎ ((early_bound n p U i ≤ U.e ! i) × (W.l ! i + lead n p ≤ late_bound n p W i))
    unfolding latest soonest
    bounds = go (most_is F f 0 n) (fewest_is L g y n)
      where
        f : ℕ → ℕ
        f = end_of n U.e p F

        g : ℕ → ℕ
        g = start_of n W.l p L

        y : ℕ
        y = W.l ! i + lead n p

        go : (most F f 0 n ≡ 0) ⊎ ((k : ℕ) × (k < n) × (F k ≡ true) × (most F f 0 n ≡ f k)) → (fewest L g y n ≡ y) ⊎ ((k : ℕ) × (k < n) × (L k ≡ true) × (fewest L g y n ≡ g k))
            → ((U.e ! i < most F f 0 n) × (fewest L g y n < W.l ! i + lead n p) × (fewest L g y n ≡ K + lead n p - most F f 0 n))
            ⊎ ((most F f 0 n ≤ U.e ! i) × (W.l ! i + lead n p ≤ fewest L g y n))
        go (inl a) (inl b) = inr (omega arith, omega arith)
        go (inl a) (inr (j, c, t, q)) = inr (omega arith, omega (arith, (most_le F f 0 n).1 j c (to_first j c t), thresholds j c, v.early i h))
        go (inr (k, b, s, r)) (inl a) = inr (omega (arith, (fewest_le L g y n).1 k b (to_last k b s), thresholds k b, v.early i h), omega arith)
        go (inr (k, b, s, r)) (inr (j, c, t, q)) =
            let u = (most_le F f 0 n).1 j c (to_first j c t) in
            let w = (fewest_le L g y n).1 k b (to_last k b s) in
            let z = (fewest_le L g y n).0 in
            elim (dec_lt (U.e ! i) (most F f 0 n)) [
              | yes d ↦ inl (d, omega (arith, thresholds j c, thresholds k b, v.early i h), omega (arith, thresholds j c, thresholds k b))
              | no d ↦ inr (omega arith, omega (arith, thresholds j c, thresholds k b, v.early i h))
            ]

    -- side 1's choice is the mirrored choice of side 0
    pub mirror_detect : detect n p W i late ≡ less_from (K + lead n p) (detect n p U i early)
    unfolding detect
    mirror_detect = go bounds
      where
        go : ((U.e ! i < early_bound n p U i) × (late_bound n p W i < W.l ! i + lead n p) × (late_bound n p W i ≡ K + lead n p - early_bound n p U i))
            ⊎ ((early_bound n p U i ≤ U.e ! i) × (W.l ! i + lead n p ≤ late_bound n p W i))
            → when (ltb (late_bound n p W i) (W.l ! i + lead n p)) (late_bound n p W i) ≡ less_from (K + lead n p) (when (ltb (U.e ! i) (early_bound n p U i)) (early_bound n p U i))
        go (inl (a, b, q)) = rw (lt-ltb _ _ a, lt-ltb _ _ b) (ap (λ (x : ℕ). some x) q)
        go (inr (a, b)) = rw (le-ltb _ _ a, le-ltb _ _ b)
