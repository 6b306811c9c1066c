-- Overload over all sets and by pairs are one thing; a job whose window is too short is such a set, and where none is a pair has a < b; the computed
-- finding is 01's, and the only one.
use Prim.Native.Nat.{ℕ, ◌+◌, ◌≤◌, ◌<◌}
use native.Mathlib.Omega.{arith}
use mathlib.Core.Path.{◌≡◌, refl, subst}
use mathlib.Core.Bool.{Bool, true, false}
use mathlib.Core.List.{List}
use mathlib.Core.Logic.{◌⊎◌, inl, inr}
use lib.Dec.{leb, ltb, eqb}
use borrow.Author.Tests.{leb-true, le-leb, ltb-true, lt-ltb, eq-eqb, eqb-true}
use Rattle.lists.specs.Lists.{◌!◌}
use Rattle.lists.specs.Tests.{some?, only}
use Rattle.lists.specs.Sets.{Set, Sub, total_of, most, fewest}
use Rattle.lists.proofs.Tests.{both_true, true_both, by_contra}
use Rattle.lists.proofs.Sums.{total_at}
use Rattle.lists.proofs.Sets.{clash, total_of_sub, total_of_none, least_of, greatest_of, most_is, most_le, fewest_is, fewest_le, some_at, at_some}
use Rattle.narrowing.specs.Windows.{Win, Long}
use Rattle.overloads.specs.Overload.{Overloaded, NoneOverloaded, window, OverloadedPair, FirstPair, pair?, stops, starts, Finding, nothing, finding_if, overload, Finds}

module _ (n : ℕ) (p : List ℕ) (W : Win) where
  -- ---- sets and pairs

  pub in_window : (a b k : ℕ) → a ≤ W.e ! k → W.l ! k ≤ b → window W a b k ≡ true
  in_window a b k h g = true_both (leb (W.l ! k) b) (leb a (W.e ! k)) (le-leb _ _ g) (le-leb _ _ h)

  pub window_in : (a b k : ℕ) → window W a b k ≡ true → (a ≤ W.e ! k) × (W.l ! k ≤ b)
  window_in a b k h = let q = both_true (leb (W.l ! k) b) (leb a (W.e ! k)) h in (leb-true _ _ q.1, leb-true _ _ q.0)

  -- an overloaded set's own bounds are such a pair
  pub overloaded_pair : (T : Set) → (o : Overloaded n p W T) → OverloadedPair n p W o.from o.upto
  overloaded_pair T o =
      let l = o.least in
      let g = o.greatest in
      let f : Sub n T (window W o.from o.upto) = λ k b t. in_window o.from o.upto k (l.least k b t) (g.greatest k b t) in
      record {
        start = (l.at, l.below, l.is);
        stop = (g.at, g.below, g.is);
        some = (l.at, l.below, f l.at l.below l.member);
        over = omega (arith, total_of_sub n p T (window W o.from o.upto) f);
      }

  -- and the jobs between such a pair are an overloaded set
  pub pair_overloaded : (a b : ℕ) → OverloadedPair n p W a b → Overloaded n p W (window W a b)
  pair_overloaded a b q =
      let k = q.some.0 in
      let l = least_of n W.e (window W a b) k q.some.1 q.some.2 in
      let g = greatest_of n W.l (window W a b) k q.some.1 q.some.2 in
      let x = l.1 in
      let y = g.1 in
      let u = window_in a b x.at x.member in
      let v = window_in a b y.at y.member in
      record { from = l.0; least = x; upto = g.0; greatest = y; over = omega (arith, x.is, y.is) }

  -- no set is overloaded exactly when there is no pair
  pub none_pairs : NoneOverloaded n p W → (a b : ℕ) → OverloadedPair n p W a b → ⊥
  none_pairs f a b q = f (window W a b) (pair_overloaded a b q)

  pub none_sets : ((a b : ℕ) → OverloadedPair n p W a b → ⊥) → NoneOverloaded n p W
  none_sets f T o = f o.from o.upto (overloaded_pair T o)

  -- the first pair is the bounds of the jobs between them
  pub first_bounds : (a b : ℕ) → FirstPair n p W a b → (T : Set) × (o : Overloaded n p W T) × (o.from ≡ a) × (o.upto ≡ b)
  first_bounds a b f =
      let o = pair_overloaded a b f.pair in
      let q = overloaded_pair (window W a b) o in
      let l = window_in a b o.least.at o.least.member in
      let g = window_in a b o.greatest.at o.greatest.member in
      let up : o.upto ≡ b = omega (arith, o.greatest.is, f.least o.from o.upto q) in
      let low : o.from ≡ a = omega (arith, o.least.is, f.greatest o.from (subst (OverloadedPair n p W o.from) up q)) in
      (window W a b, o, low, up)

  -- a job whose window is too short is overloaded by itself
  pub alone_overloaded : (j : ℕ) → j < n → W.l ! j < W.e ! j + p ! j → Overloaded n p W (λ k. eqb k j)
  unfolding total_of
  alone_overloaded j b s =
      record {
        from = W.e ! j;
        least = record { at = j; below = b; member = eq-eqb j j refl; is = refl; least = λ k h t. rw (eqb-true k j t) (omega arith) };
        upto = W.l ! j;
        greatest = record { at = j; below = b; member = eq-eqb j j refl; is = refl; greatest = λ k h t. rw (eqb-true k j t) (omega arith) };
        over = let q : only (eqb j j) (p ! j) ≡ p ! j = rw (eq-eqb j j refl) in omega (arith, total_at (λ k. only (eqb k j) (p ! k)) n j b);
      }

  -- where every window holds its job, such a pair has a < b
  pub pair_apart : Long n p W → (a b : ℕ) → OverloadedPair n p W a b → a < b
  unfolding Long
  pair_apart L a b q =
      by_contra _ _
      (λ c.
      let z = total_of_none n p (window W a b) (λ k h t. let u = window_in a b k t in omega (arith, L k h)) in
      let k = q.some.0 in
      let u = window_in a b k q.some.2 in
      omega (arith, L k q.some.1, q.over))

  -- ---- the computed finding

  pair_yes : (i k : ℕ) → i < n → k < n → pair? n p W (W.e ! i) (W.l ! k) ≡ true → OverloadedPair n p W (W.e ! i) (W.l ! k)
  unfolding pair?
  pair_yes i k b c h =
      let q = both_true (some? (window W (W.e ! i) (W.l ! k)) n) (ltb (W.l ! k) (W.e ! i + total_of n p (window W (W.e ! i) (W.l ! k)))) h in
      record { start = (i, b, refl); stop = (k, c, refl); some = at_some (window W (W.e ! i) (W.l ! k)) n q.0; over = ltb-true _ _ q.1 }

  yes_pair : (a b : ℕ) → OverloadedPair n p W a b → pair? n p W a b ≡ true
  unfolding pair?
  yes_pair a b q =
      true_both (some? (window W a b) n) (ltb b (a + total_of n p (window W a b))) (some_at (window W a b) n q.some.0 q.some.1 q.some.2) (lt-ltb _ _ q.over)

  -- a pair's stop is one of the stops, its start one of the starts
  is_stop : (a b : ℕ) → OverloadedPair n p W a b → (k : ℕ) × (k < n) × (stops n p W k ≡ true) × (W.l ! k ≡ b)
  unfolding stops
  is_stop a b q =
      let i = q.start in
      let k = q.stop in
      let h : pair? n p W (W.e ! i.0) (W.l ! k.0) ≡ true = rw (i.2, k.2) (yes_pair a b q) in
      (k.0, k.1, some_at (λ i. pair? n p W (W.e ! i) (W.l ! k.0)) n i.0 i.1 h, k.2)

  is_start : (a b : ℕ) → OverloadedPair n p W a b → (i : ℕ) × (i < n) × (starts n p W b i ≡ true) × (W.e ! i ≡ a)
  unfolding starts
  is_start a b q = let i = q.start in (i.0, i.1, rw i.2 (yes_pair a b q), i.2)

  top : ℕ
  top = most (λ k. true) (λ k. W.l ! k) 0 n

  low : ℕ
  low = fewest (stops n p W) (λ k. W.l ! k) top n

  -- where there is a stop, the least is one
  low-is : some? (stops n p W) n ≡ true → (k : ℕ) × (k < n) × (stops n p W k ≡ true) × (low ≡ W.l ! k)
  unfolding low top
  low-is h = go (at_some (stops n p W) n h) (fewest_is (stops n p W) (λ k. W.l ! k) top n)
    where
      go : (k : ℕ) × (k < n) × (stops n p W k ≡ true) → (low ≡ top) ⊎ ((k : ℕ) × (k < n) × (stops n p W k ≡ true) × (low ≡ W.l ! k))
          → (k : ℕ) × (k < n) × (stops n p W k ≡ true) × (low ≡ W.l ! k)
      go x (inl e) =
          (x.0, x.1, x.2, omega (arith, (fewest_le (stops n p W) (λ k. W.l ! k) top n).1 x.0 x.1 x.2, (most_le (λ k. true) (λ k. W.l ! k) 0 n).1 x.0 x.1 refl))
      go x (inr y) = y

  low_least : (a b : ℕ) → OverloadedPair n p W a b → low ≤ b
  unfolding low
  low_least a b q = let k = is_stop a b q in omega (arith, (fewest_le (stops n p W) (λ k. W.l ! k) top n).1 k.0 k.1 k.2)

  -- and the greatest start for it is one
  high_is : (i k : ℕ) → i < n → k < n → low ≡ W.l ! k → starts n p W low i ≡ true → FirstPair n p W (most (starts n p W low) (λ k. W.e ! k) 0 n) low
  unfolding starts
  high_is i k b c e t = go (most_is (starts n p W low) (λ k. W.e ! k) 0 n)
    where
      high : ℕ
      high = most (starts n p W low) (λ k. W.e ! k) 0 n

      first : (j : ℕ) → j < n → starts n p W low j ≡ true → high ≡ W.e ! j → FirstPair n p W high low
      first j d s f =
          record {
            pair = rw (f, e) (pair_yes j k d c (rw e at s));
            least = low_least;
            greatest = λ a' q. let x = is_start a' low q in omega (arith, (most_le (starts n p W low) (λ k. W.e ! k) 0 n).1 x.0 x.1 x.2);
          }

      go : (high ≡ 0) ⊎ ((j : ℕ) × (j < n) × (starts n p W low j ≡ true) × (high ≡ W.e ! j)) → FirstPair n p W high low
      go (inl z) = first i b t (omega (arith, (most_le (starts n p W low) (λ k. W.e ! k) 0 n).1 i b t))
      go (inr (j, d, s, f)) = first j d s f

  pub overload_finds : Finds n p W (overload n p W)
  unfolding overload low top stops starts
  overload_finds = go (some? (stops n p W) n) refl
    where
      go : (c : Bool) → some? (stops n p W) n ≡ c → Finds n p W (finding_if c (most (starts n p W low) (λ k. W.e ! k) 0 n) low)
      go true h =
          let k = low-is h in
          let x = at_some (λ i. pair? n p W (W.e ! i) (W.l ! k.0)) n k.2 in
          high_is x.0 k.0 x.1 k.1 k.3 (rw k.3 x.2)
      go false h = λ a b q. let k = is_stop a b q in clash (some? (stops n p W) n) (some_at (stops n p W) n k.0 k.1 k.2) h

  -- two findings are equal
  pub finds_same : (x y : Finding) → Finds n p W x → Finds n p W y → x ≡ y
  finds_same nothing nothing f g = refl
  finds_same nothing (Finding.pair a b) f g = absurd (f a b g.pair)
  finds_same (Finding.pair a b) nothing f g = absurd (g a b f.pair)
  finds_same (Finding.pair a b) (Finding.pair c d) f g =
      let e : b ≡ d = omega (arith, f.least c d g.pair, g.least a b f.pair) in
      let q : a ≡ c = omega (arith, g.greatest a (rw e at f.pair), f.greatest c (rw e g.pair)) in
      cc

  -- whatever meets 01's words is what the definition computes
  pub overload_is : (x : Finding) → Finds n p W x → x ≡ overload n p W
  overload_is x f = finds_same x (overload n p W) f overload_finds

  -- "nothing" exactly when no non-empty set is overloaded
  pub nothing_sets : overload n p W ≡ nothing → NoneOverloaded n p W
  nothing_sets e = none_sets (subst (Finds n p W) e overload_finds)
