-- One pass by rising e finds the greatest "least e plus total p" over all non-empty subsets of a set: after each place it has the completion of the members
-- that it has passed.
use Prim.Native.Nat.{ℕ, zero, suc, ◌+◌, ◌≤◌, ◌<◌}
use native.Mathlib.Omega.{arith}
use native.Mathlib.Decide.{ℕ_discrete, dec_lt}
use native.Mathlib.Numerals.{add-one}
use mathlib.Core.Path.{◌≡◌, refl, sym, ap, subst, ◌∙◌}
use mathlib.Core.Bool.{Bool, true, false}
use mathlib.Core.List.{List}
use mathlib.Core.Logic.{inl, inr}
use mathlib.Core.Option.{Option, none, some}
use lib.Dec.{ltb, eqb}
use borrow.Author.Tests.{ltb-true, ltb-false, lt-ltb, eqb-true, eq-eqb}
use Rattle.lists.specs.Lists.{◌!◌}
use Rattle.lists.specs.Tests.{both, pick}
use Rattle.lists.specs.Extremes.{found_or}
use Rattle.lists.specs.Sets.{Set, Parts, Completes, later}
use Rattle.lists.specs.Orders.{rank, Ordered}
use Rattle.lists.specs.Bounds.{latest}
use Rattle.lists.specs.Sweeps.{advanced, sweep}
use Rattle.lists.proofs.Tests.{both_true, true_both}
use Rattle.lists.proofs.Sets.{clash}
use Rattle.lists.proofs.Completions.{completes_parts, total_of_one, completes_one, completes_alike}
use Rattle.lists.proofs.Orders.{rank_below, rank_apart, rank_rising}
use Rattle.lists.proofs.Bounds.{latest_most, latest_is}

pub sweep_more : (e p : List ℕ) (O : Set) (o : List ℕ) (m : ℕ)
    → sweep e p O o (m + 1) ≡ pick (O (o ! m)) (advanced (sweep e p O o m) (e ! (o ! m)) (p ! (o ! m))) (sweep e p O o m)
unfolding sweep
sweep_more e p O o m = rw add-one

module _ (n : ℕ) (e p : List ℕ) (O : Set) (o : List ℕ) (ord : Ordered e n o) where
  abbrev pos : ℕ → ℕ
  pos = rank e n

  -- the members at the first m places; the one at place m
  abbrev done : ℕ → Set
  done m k = both (O k) (ltb (pos k) m)

  abbrev here : ℕ → Set
  here m k = both (O k) (eqb k (o ! m))

  at_place : (m k : ℕ) → m < n → k < n → pos k ≡ m → k ≡ o ! m
  at_place m k b c q = rank_apart e n k (o ! m) c (ord.into m b) (omega (arith, ord.placed m b))

  parts : (m : ℕ) → m < n → Parts n (done (suc m)) (done m) (here m)
  parts m b =
      record {
        left = λ k c t. let x = both_true (O k) (ltb (pos k) m) t in true_both (O k) (ltb (pos k) (suc m)) x.0 (omega (arith, lt-ltb, ltb-true (pos k) m x.1));
        right = λ k c t.
            let x = both_true (O k) (eqb k (o ! m)) t in
            let q : pos k ≡ m = ap pos (eqb-true k (o ! m) x.1) ∙ ord.placed m b in
            true_both (O k) (ltb (pos k) (suc m)) x.0 (lt-ltb (pos k) (suc m) (omega arith));
        each = λ k c t.
            let x = both_true (O k) (ltb (pos k) (suc m)) t in
            let y : pos k < suc m = ltb-true _ _ x.1 in
            elim (ℕ_discrete (pos k) m) [
              | yes q ↦ inr (true_both (O k) (eqb k (o ! m)) x.0 (eq-eqb k (o ! m) (at_place m k b c q)))
              | no q ↦ inl (true_both (O k) (ltb (pos k) m) x.0 (lt-ltb (pos k) m (omega arith)))
            ];
        apart = λ k c t u.
            let x = both_true (O k) (ltb (pos k) m) t in
            let y = both_true (O k) (eqb k (o ! m)) u in
            let q : pos k ≡ m = ap pos (eqb-true k (o ! m) y.1) ∙ ord.placed m b in
            omega (arith, ltb-true (pos k) m x.1);
      }

  rising : (m : ℕ) → m < n → (i k : ℕ) → i < n → k < n → done m i ≡ true → here m k ≡ true → e ! i ≤ e ! k
  rising m b i k c d t u =
      let x = both_true (O i) (ltb (pos i) m) t in
      let y = both_true (O k) (eqb k (o ! m)) u in
      let q : pos k ≡ m = ap pos (eqb-true k (o ! m) y.1) ∙ ord.placed m b in
      rank_rising e n i k c d (omega (arith, ltb-true (pos i) m x.1))

  one_more : (x : Option ℕ) (a q : ℕ) → found_or 0 (later x (some (a + q)) q) ≡ advanced (found_or 0 x) a q
  one_more none a q = go (ltb 0 a) refl
    where
      go : (c : Bool) → ltb 0 a ≡ c → a + q ≡ pick c a 0 + q
      go true h = refl
      go false h = omega (arith, ltb-false)
  one_more (some x) a q = go (ltb (x + q) (a + q)) refl (ltb x a) refl
    where
      go : (c : Bool) → ltb (x + q) (a + q) ≡ c → (d : Bool) → ltb x a ≡ d → pick c (a + q) (x + q) ≡ pick d a x + q
      go true h true g = refl
      go true h false g = absurd (omega (arith, ltb-true, ltb-false))
      go false h true g = absurd (omega (arith, ltb-true, ltb-false))
      go false h false g = refl

  -- the pass has found the completion of the members at the places that it has passed
  sweep_done : (m : ℕ) → m ≤ n → (x : Option ℕ) × Completes n e p (done m) x × (sweep e p O o m ≡ found_or 0 x)
  unfolding sweep
  sweep_done zero b = (none, λ k c t. omega (arith, ltb-true (pos k) 0 (both_true (O k) (ltb (pos k) 0) t).1), refl)
  sweep_done (suc m) b = go (O (o ! m)) refl (sweep_done m (omega arith))
    where
      go : (c : Bool) → O (o ! m) ≡ c → (x : Option ℕ) × Completes n e p (done m) x × (sweep e p O o m ≡ found_or 0 x)
          → (x : Option ℕ) × Completes n e p (done (suc m)) x × (pick (O (o ! m)) (advanced (sweep e p O o m) (e ! (o ! m)) (p ! (o ! m))) (sweep e p O o m) ≡ found_or 0 x)
      go true h (x, f, g) =
          let j = o ! m in
          let one : (k : ℕ) → k < n → here m k ≡ true → k ≡ j = λ k c t. eqb-true k j (both_true (O k) (eqb k j) t).1 in
          let own : here m j ≡ true = true_both (O j) (eqb j j) h (eq-eqb j j refl) in
          let y = completes_parts n e p (done (suc m)) (done m) (here m) (parts m b) (rising m b) x (some (e ! j + p ! j)) f (completes_one n p (here m) j (ord.into m b) own one e) in (
            later x (some (e ! j + p ! j)) (p ! j),
            subst (λ (t : ℕ). Completes n e p (done (suc m)) (later x (some (e ! j + p ! j)) t)) (total_of_one n p (here m) j (ord.into m b) own one) y,
            rw (h, g) (sym (one_more x (e ! j) (p ! j))),
          )
      go false h (x, f, g) = (
        x,
        completes_alike n e p (done m) (done (suc m)) (parts m b).left
            (λ k c t.
            elim ((parts m b).each k c t) [
              | inl q ↦ q
              | inr q ↦ let u = both_true (O k) (eqb k (o ! m)) q in clash (O (o ! m)) (subst (λ (i : ℕ). O i ≡ true) (eqb-true k (o ! m) u.1) u.0) h
            ])
            x f,
        rw h g,
      )

  completes_latest : (x : Option ℕ) → Completes n e p O x → latest n e p O 0 ≡ found_or 0 x
  completes_latest x f = go x f (dec_lt 0 (latest n e p O 0))
    where
      go : (x : Option ℕ) → Completes n e p O x → Dec (0 < latest n e p O 0) → latest n e p O 0 ≡ found_or 0 x
      go none f (yes h) = let l = latest_is n e p O 0 h in absurd (f l.ends.least.at l.ends.least.below (l.sub l.ends.least.at l.ends.least.below l.ends.least.member))
      go none f (no h) = omega arith
      go (some b) f (yes h) = let l = latest_is n e p O 0 h in omega (arith, latest_most n e p O 0 f.T b f.sub f.ends, f.most l.T (latest n e p O 0) l.sub l.ends)
      go (some b) f (no h) = omega (arith, latest_most n e p O 0 f.T b f.sub f.ends)

  pub sweep_latest : latest n e p O 0 ≡ sweep e p O o n
  sweep_latest =
      let x = sweep_done n (omega arith) in
      completes_latest x.0
      (completes_alike n e p (done n) O (λ k c t. (both_true (O k) (ltb (pos k) n) t).0)
      (λ k c t. true_both (O k) (ltb (pos k) n) t (lt-ltb (pos k) n (rank_below e n k c)))
      x.0 x.1)
      ∙ sym x.2
