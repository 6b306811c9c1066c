-- The search offers a move of the rule wherever one applies, and on side 0 the greatest bound that the rule gives, on side 1 the least latest end.
use Prim.Native.Nat.{ℕ, ◌+◌, ◌-◌, ◌≤◌, ◌<◌}
use native.Mathlib.Omega.{arith}
use mathlib.Core.Path.{◌≡◌, refl, ap, subst}
use mathlib.Core.Bool.{Bool, true, false, not}
use mathlib.Core.List.{List}
use mathlib.Core.Option.{some}
use lib.Dec.{leb, ltb, eqb}
use borrow.Author.Tests.{leb-true, not-true, ltb-true, le-leb, lt-ltb, eqb-false, ne_eqb}
use Rattle.lists.specs.Lists.{◌!◌}
use Rattle.lists.specs.Tests.{both}
use Rattle.lists.specs.Sets.{total_of, Latest}
use Rattle.lists.specs.Bounds.{lead, Soonest}
use Rattle.lists.proofs.Tests.{both_true}
use Rattle.lists.proofs.Bounds.{latest_most, latest_is, soonest_least, soonest_is, soonest_begins}
use Rattle.narrowing.specs.Windows.{Win, Side, early, late, Long}
use Rattle.narrowing.specs.Search.{Offered, Searches}
use Rattle.heads.specs.Precedences.{ComesFirst, StartsAfter, EndsBefore, Detects}
use Rattle.heads.specs.Search.{comes_first, firsts, nexts, bound, early_bound, late_bound, when, detect, search}

-- ---- the test of what comes first

module _ (p : List ℕ) (W : Win) (j i : ℕ) where
  pub first_yes : comes_first p W j i ≡ true → ComesFirst p W j i
  unfolding comes_first
  first_yes h =
      let a = both_true (not (eqb j i)) (both (leb 1 (p ! j)) (both (leb 1 (p ! i)) (ltb (W.l ! j) (W.e ! i + p ! i + p ! j)))) h in
      let b = both_true (leb 1 (p ! j)) (both (leb 1 (p ! i)) (ltb (W.l ! j) (W.e ! i + p ! i + p ! j))) a.1 in
      let c = both_true (leb 1 (p ! i)) (ltb (W.l ! j) (W.e ! i + p ! i + p ! j)) b.1 in
      record { other = eqb-false j i (not-true (eqb j i) a.0); lasts_j = leb-true _ _ b.0; lasts_i = leb-true _ _ c.0; exceeds = ltb-true _ _ c.1 }

  pub yes_first : ComesFirst p W j i → comes_first p W j i ≡ true
  unfolding comes_first
  yes_first f = rw (ne_eqb j i f.other, le-leb _ _ f.lasts_j, le-leb _ _ f.lasts_i) (lt-ltb _ _ f.exceeds)

-- ---- a choice by a test: a move where the test passes, and none where every move passes it

when_offered : (P : ℕ → Type 0) (to : ℕ → ℕ) (c : Bool) (x : ℕ) → (c ≡ true → P (to x)) → ((d : ℕ) → P d → c ≡ true) → Offered P to (when c x)
when_offered P to true x f g = f refl
when_offered P to false x f g = λ d a. let z : ◌≡◌ {A = ℕ} 0 1 = let q = g d a in cc in omega arith

when_is : (c : Bool) (x b : ℕ) → when c x ≡ some b → (c ≡ true) × (x ≡ b)
when_is true x b h = (refl, cc)
when_is false x b h = let z : ◌≡◌ {A = ℕ} 0 1 = cc in absurd (omega arith)

module _ (n : ℕ) (p : List ℕ) (W : Win) (i : ℕ) where
  -- ---- side 0

  -- the greatest value, over the non-empty sets of jobs that come first, of least e plus total p
  pub early_latest : (b : ℕ) → detect n p W i early ≡ some b → (W.e ! i < b) × Latest n W.e p (firsts p W i) b
  unfolding detect
  early_latest b h =
      let w = when_is (ltb (W.e ! i) (early_bound n p W i)) (early_bound n p W i) b h in
      let t : W.e ! i < early_bound n p W i = ltb-true _ _ w.0 in
      subst (λ (x : ℕ). (W.e ! i < x) × Latest n W.e p (firsts p W i) x) w.1 (t, latest_is n W.e p (firsts p W i) 0 (omega arith))

  latest_early : (b : ℕ) → (W.e ! i < b) × Latest n W.e p (firsts p W i) b → StartsAfter n p W i b
  latest_early b x = let l = x.1 in record { T = l.T; first = λ k c m. first_yes p W k i (l.sub k c m); ends = l.ends; tightens = x.0 }

  -- every bound of the rule is at most the search's
  pub early_most : (b : ℕ) → StartsAfter n p W i b → b ≤ early_bound n p W i
  early_most b a = latest_most n W.e p (firsts p W i) 0 a.T b (λ k c t. yes_first p W k i (a.first k c t)) a.ends

  -- ---- side 1

  pub late_soonest : (c : ℕ) → detect n p W i late ≡ some c → (c < W.l ! i + lead n p) × Soonest n W.l p (nexts p W i) c
  unfolding detect
  late_soonest c h =
      let w = when_is (ltb (late_bound n p W i) (W.l ! i + lead n p)) (late_bound n p W i) c h in
      let t : late_bound n p W i < W.l ! i + lead n p = ltb-true _ _ w.0 in
      subst (λ (x : ℕ). (x < W.l ! i + lead n p) × Soonest n W.l p (nexts p W i) x) w.1 (t, soonest_is n W.l p (nexts p W i) (W.l ! i + lead n p) t)

  -- it tightens as a bound that stops at 0 too, since a job that comes before another lasts, and so ends after 0
  soonest_late : Long n p W → i < n → (c : ℕ) → (c < W.l ! i + lead n p) × Soonest n W.l p (nexts p W i) c → EndsBefore n p W i (c - lead n p)
  unfolding Long
  soonest_late L h c x =
      let l = x.1 in
      let g = l.greatest in
      let f = first_yes p W i g.at (l.sub g.at g.below g.member) in
      record {
        T = l.T;
        last = λ k d m. first_yes p W i k (l.sub k d m);
        begins = soonest_begins n W.l p (nexts p W i) c l;
        tightens = omega (arith, x.0, L i h, f.lasts_i, f.lasts_j);
      }

  -- every bound of the rule, as a signed number, is at least the search's
  pub late_least : (b : ℕ) (a : EndsBefore n p W i b) → late_bound n p W i + total_of n p a.T ≤ a.begins.upto + lead n p
  late_least b a =
      soonest_least n W.l p (nexts p W i) (W.l ! i + lead n p) a.T a.begins.upto (λ k c t. yes_first p W i k (a.last k c t)) a.begins.greatest

  -- ---- both

  detect_is : Long n p W → i < n → (s : Side) → Offered (Detects n p W i s) (bound n p s) (detect n p W i s)
  unfolding detect bound
  detect_is L h early =
      when_offered (StartsAfter n p W i) (λ b. b) (ltb (W.e ! i) (early_bound n p W i)) (early_bound n p W i)
      (λ t. latest_early (early_bound n p W i) (early_latest (early_bound n p W i) (ap (λ (x : Bool). when x (early_bound n p W i)) t)))
      (λ d a. lt-ltb (W.e ! i) (early_bound n p W i) (omega (arith, early_most d a, a.tightens)))
  detect_is L h late =
      when_offered (EndsBefore n p W i) (λ c. c - lead n p) (ltb (late_bound n p W i) (W.l ! i + lead n p)) (late_bound n p W i)
      (λ t. soonest_late L h (late_bound n p W i) (late_soonest (late_bound n p W i) (ap (λ (y : Bool). when y (late_bound n p W i)) t)))
      (λ d a. lt-ltb (late_bound n p W i) (W.l ! i + lead n p) (omega (arith, late_least d a, a.tightens, a.begins.is)))

pub detect_searches : (n : ℕ) (p : List ℕ) → Searches (search n p) (Detects n p)
detect_searches n p = record { best-is = λ W j s L b. detect_is n p W j L b s }
