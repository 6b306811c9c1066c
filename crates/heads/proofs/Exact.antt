-- On fixed windows the rules say just what a schedule is: none applies to jobs of which no two overlap, and where two overlap one does. And two jobs
-- overlap, or no two do.
use Prim.Native.Nat.{ℕ, ◌+◌, ◌≤◌, ◌<◌}
use native.Mathlib.Omega.{arith}
use mathlib.Core.Path.{◌≡◌, refl, sym}
use mathlib.Core.Bool.{Bool, true, false, not}
use mathlib.Core.List.{List}
use mathlib.Core.Logic.{◌⊎◌, inl, inr}
use lib.Dec.{leb, ltb, eqb}
use borrow.Author.Tests.{leb-true, le-leb, ltb-true, lt-ltb, not-true, eqb-false, ne_eqb, eqb-true, eq-eqb}
use Rattle.lists.specs.Lists.{◌!◌}
use Rattle.lists.specs.Tests.{both, some?}
use Rattle.lists.specs.Sets.{Set}
use Rattle.lists.proofs.Tests.{both_true}
use Rattle.lists.proofs.Sets.{clash, some_at, at_some}
use Rattle.lists.proofs.Completions.{total_of_one}
use Rattle.narrowing.specs.Windows.{Win, early, late}
use Rattle.narrowing.specs.Rules.{Stable}
use Rattle.narrowing.specs.Schedules.{Fixed, Exact}
use Rattle.heads.specs.Precedences.{Overlap, Apart, ComesFirst, StartsAfter, Detects}
use Rattle.heads.proofs.Between.{apart_after, packed}

-- ---- no rule applies to a schedule

module _ (n : ℕ) (p s : List ℕ) (A : Apart n p s) (W : Win) (x : Fixed n p s W) where
  -- what comes first ends before the other starts
  first_before : (j i : ℕ) → j < n → i < n → ComesFirst p W j i → s ! j + p ! j ≤ s ! i
  first_before j i b c f = apart_after n p s A j i b c (λ q. f.other (sym q)) f.lasts_j f.lasts_i (omega (arith, f.exceeds, x.late j b, x.early i c))

  detect_stable : Stable n (Detects n p) W
  unfolding Stable
  detect_stable i early b h a =
      let g = a.ends in
      let l = g.least in
      let low : (k : ℕ) → k < n → a.T k ≡ true → g.from ≤ s ! k = λ k c t. omega (arith, l.least k c t, x.early k c) in
      let by : (k : ℕ) → k < n → a.T k ≡ true → s ! k + p ! k ≤ s ! i = λ k c t. first_before k i c h (a.first k c t) in
      omega (
        arith,
        x.early i h,
        g.is,
        a.tightens,
        packed n p s A n (omega arith) a.T g.from (s ! i) (omega (arith, low l.at l.below l.member, by l.at l.below l.member))
            (λ k c t. ((a.first k c t).lasts_j, low k c t, by k c t)),
      )
  detect_stable i late b h a =
      let g = a.begins in
      let l = g.greatest in
      let high : (k : ℕ) → k < n → a.T k ≡ true → s ! k + p ! k ≤ g.upto = λ k c t. omega (arith, l.greatest k c t, x.late k c) in
      let from : (k : ℕ) → k < n → a.T k ≡ true → s ! i + p ! i ≤ s ! k = λ k c t. first_before i k h c (a.last k c t) in
      omega (
        arith,
        x.late i h,
        g.is,
        a.tightens,
        packed n p s A n (omega arith) a.T (s ! i + p ! i) g.upto (omega (arith, high l.at l.below l.member, from l.at l.below l.member))
            (λ k c t. ((a.last k c t).lasts_i, from k c t, high k c t)),
      )

-- ---- where two jobs overlap, the rule moves the first of them

overlap_applies : (n : ℕ) (p s : List ℕ) (W : Win) → Fixed n p s W → (o : Overlap n p s) → StartsAfter n p W o.i (s ! o.j + p ! o.j)
overlap_applies n p s W x o =
    let i = o.i in
    let j = o.j in
    let one : (k : ℕ) → eqb k j ≡ true → k ≡ j = λ k t. eqb-true k j t in
    record {
      T = λ k. eqb k j;
      first = λ k h t.
          rw (one k t)
          (record {
            other = λ z. o.two (sym z);
            lasts_j = o.lasts_j;
            lasts_i = o.lasts_i;
            exceeds = omega (arith, o.before, o.after, x.late j o.listed_j, x.early i o.listed_i);
          });
      ends = record {
        from = s ! j;
        least = record {
          at = j;
          below = o.listed_j;
          member = eq-eqb j j refl;
          is = x.early j o.listed_j;
          least = λ k h t. rw (one k t) (omega (arith, x.early j o.listed_j));
        };
        is = omega (arith, total_of_one n p (λ k. eqb k j) j o.listed_j (eq-eqb j j refl) (λ k h t. one k t));
      };
      tightens = omega (arith, o.before, x.early i o.listed_i);
    }

pub detect_exact : (n : ℕ) (p : List ℕ) → Exact n p (Detects n p) (Apart n p)
unfolding Stable
detect_exact n p =
    record {
      sound = λ s W x A. detect_stable n p s A W x;
      full = λ s W x S o. S o.i early _ o.listed_i (overlap_applies n p s W x o);
    }

-- ---- two jobs overlap, or no two do

module _ (n : ℕ) (p s : List ℕ) where
  meets : ℕ → Set
  meets i j =
      both (not (eqb i j)) (both (leb 1 (p ! i)) (both (leb 1 (p ! j)) (both (ltb (s ! i) (s ! j + p ! j)) (ltb (s ! j) (s ! i + p ! i)))))

  meets_yes : (i j : ℕ) → i < n → j < n → meets i j ≡ true → Overlap n p s
  unfolding meets
  meets_yes i j b c h =
      let x = both_true (not (eqb i j)) (both (leb 1 (p ! i)) (both (leb 1 (p ! j)) (both (ltb (s ! i) (s ! j + p ! j)) (ltb (s ! j) (s ! i + p ! i))))) h in
      let y = both_true (leb 1 (p ! i)) (both (leb 1 (p ! j)) (both (ltb (s ! i) (s ! j + p ! j)) (ltb (s ! j) (s ! i + p ! i)))) x.1 in
      let z = both_true (leb 1 (p ! j)) (both (ltb (s ! i) (s ! j + p ! j)) (ltb (s ! j) (s ! i + p ! i))) y.1 in
      let w = both_true (ltb (s ! i) (s ! j + p ! j)) (ltb (s ! j) (s ! i + p ! i)) z.1 in
      record {
        i = i;
        j = j;
        listed_i = b;
        listed_j = c;
        two = eqb-false i j (not-true (eqb i j) x.0);
        lasts_i = leb-true _ _ y.0;
        lasts_j = leb-true _ _ z.0;
        before = ltb-true _ _ w.0;
        after = ltb-true _ _ w.1;
      }

  yes_meets : (o : Overlap n p s) → meets o.i o.j ≡ true
  unfolding meets
  yes_meets o = rw (ne_eqb o.i o.j o.two, le-leb _ _ o.lasts_i, le-leb _ _ o.lasts_j, lt-ltb _ _ o.before, lt-ltb _ _ o.after)

  pub apart_or : Apart n p s ⊎ Overlap n p s
  apart_or = go (some? (λ i. some? (meets i) n) n) refl
    where
      go : (b : Bool) → some? (λ i. some? (meets i) n) n ≡ b → Apart n p s ⊎ Overlap n p s
      go true h =
          let x = at_some (λ i. some? (meets i) n) n h in
          let y = at_some (meets x.0) n x.2 in
          inr (meets_yes x.0 y.0 x.1 y.1 y.2)
      go false h =
          inl (λ o. clash (some? (λ i. some? (meets i) n) n) (some_at (λ i. some? (meets i) n) n o.i o.listed_i (some_at (meets o.i) n o.j o.listed_j (yes_meets o))) h)
