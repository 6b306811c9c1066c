-- On tighter windows a set ends later and begins sooner; the greatest end over all non-empty subsets of a set is the greatest over its members' own
-- thresholds, and mirrored the least begin, also where it lies below zero.
use Prim.Native.Nat.{ℕ, ◌+◌, ◌-◌, ◌≤◌, ◌<◌}
use native.Mathlib.Omega.{arith}
use mathlib.Core.Path.{◌≡◌, refl}
use mathlib.Core.Bool.{true}
use mathlib.Core.List.{List}
use mathlib.Core.Logic.{◌⊎◌, inl, inr}
use lib.Dec.{leb}
use borrow.Author.Tests.{leb-true, le-leb}
use Rattle.lists.specs.Lists.{◌!◌}
use Rattle.lists.specs.Sets.{Set, Sub, total_of, LeastOf, GreatestOf, Ends, Latest, above}
use Rattle.lists.proofs.Tests.{both_true, true_both}
use Rattle.lists.proofs.Sets.{total_of_sub, least_of, greatest_of, most_is, most_le, fewest_is, fewest_le}
use Rattle.lists.specs.Bounds.{Begins, lead, Soonest, under, end_of, start_of, latest, soonest}

-- ---- on tighter windows

pub ends_later : (n : ℕ) (e f p : List ℕ) (T : Set) (b : ℕ) → ((k : ℕ) → k < n → e ! k ≤ f ! k) → Ends n e p T b → (c : ℕ) × (b ≤ c) × Ends n f p T c
ends_later n e f p T b h x =
    let l = x.least in
    let m = least_of n f T l.at l.below l.member in
    let q = m.1 in
    let y : x.from ≤ e ! q.at = l.least q.at q.below q.member in
    (m.0 + total_of n p T, omega (arith, h q.at q.below, q.is, x.is), record { from = m.0; least = q; is = refl })

pub begins_sooner : (n : ℕ) (l f p : List ℕ) (T : Set) (b : ℕ) → ((k : ℕ) → k < n → f ! k ≤ l ! k) → Begins n l p T b → (c : ℕ) × (c ≤ b) × Begins n f p T c
begins_sooner n l f p T b h x =
    let g = x.greatest in
    let m = greatest_of n f T g.at g.below g.member in
    let q = m.1 in
    let y : l ! q.at ≤ x.upto = g.greatest q.at q.below q.member in
    (m.0 - total_of n p T, omega (arith, h q.at q.below, q.is, x.is), record { upto = m.0; greatest = q; is = refl })

-- ---- the maximum over all non-empty subsets is the maximum over thresholds

module _ (n : ℕ) (e p : List ℕ) (O : Set) where
  -- a member's threshold is a set of its own
  pub threshold_least : (k : ℕ) → k < n → O k ≡ true → LeastOf n e (above e O (e ! k)) (e ! k)
  threshold_least k b t =
      record {
        at = k;
        below = b;
        member = true_both (O k) (leb (e ! k) (e ! k)) t (omega (arith, le-leb));
        is = refl;
        least = λ i c s. leb-true _ _ (both_true (O i) (leb (e ! k) (e ! i)) s).1;
      }

  pub threshold_ends : (k : ℕ) → k < n → O k ≡ true → Ends n e p (above e O (e ! k)) (end_of n e p O k)
  threshold_ends k b t = record { from = e ! k; least = threshold_least k b t; is = refl }

  pub above_sub : (a : ℕ) → Sub n (above e O a) O
  above_sub a k b t = (both_true (O k) (leb a (e ! k)) t).0

  -- a subset whose numbers are no less than a member's is part of its threshold
  pub sub_above : (T : Set) (a : ℕ) → Sub n T O → ((i : ℕ) → i < n → T i ≡ true → a ≤ e ! i) → Sub n T (above e O a)
  sub_above T a h f i c t = true_both (O i) (leb a (e ! i)) (h i c t) (le-leb _ _ (f i c t))

  -- no set ends later than the scan
  pub latest_most : (y : ℕ) (T : Set) (b : ℕ) → Sub n T O → Ends n e p T b → b ≤ latest n e p O y
  unfolding latest
  latest_most y T b h x =
      let l = x.least in
      let k = l.at in
      let s = total_of_sub n p T (above e O (e ! k)) (sub_above T (e ! k) h (λ i c t. omega (arith, l.least i c t, l.is))) in
      omega (arith, x.is, l.is, (most_le O (end_of n e p O) y n).1 k l.below (h k l.below l.member))

  -- where the scan is more than y, it is the maximum over the non-empty subsets
  pub latest_is : (y : ℕ) → y < latest n e p O y → Latest n e p O (latest n e p O y)
  unfolding latest
  latest_is y h = go (most_is O (end_of n e p O) y n)
    where
      go : (latest n e p O y ≡ y) ⊎ ((k : ℕ) × (k < n) × (O k ≡ true) × (latest n e p O y ≡ end_of n e p O k)) → Latest n e p O (latest n e p O y)
      go (inl q) = absurd (omega arith)
      go (inr (k, b, t, q)) =
          record { T = above e O (e ! k); sub = above_sub (e ! k); ends = rw q (threshold_ends k b t); most = λ T' b' s x. latest_most y T' b' s x }

-- ---- mirrored

pub lead_all : (n : ℕ) (p : List ℕ) (T : Set) → total_of n p T ≤ lead n p
unfolding lead
lead_all n p T = total_of_sub n p T (λ k. true) (λ k b t. refl)

module _ (n : ℕ) (l p : List ℕ) (O : Set) where
  pub threshold_greatest : (k : ℕ) → k < n → O k ≡ true → GreatestOf n l (under l O (l ! k)) (l ! k)
  threshold_greatest k b t =
      record {
        at = k;
        below = b;
        member = true_both (O k) (leb (l ! k) (l ! k)) t (omega (arith, le-leb));
        is = refl;
        greatest = λ i c s. leb-true _ _ (both_true (O i) (leb (l ! i) (l ! k)) s).1;
      }

  pub under_sub : (a : ℕ) → Sub n (under l O a) O
  under_sub a k b t = (both_true (O k) (leb (l ! k) a) t).0

  pub sub_under : (T : Set) (a : ℕ) → Sub n T O → ((i : ℕ) → i < n → T i ≡ true → l ! i ≤ a) → Sub n T (under l O a)
  sub_under T a h f i c t = true_both (O i) (leb (l ! i) a) (h i c t) (le-leb _ _ (f i c t))

  -- no set begins sooner than the scan
  pub soonest_least : (y : ℕ) (T : Set) (u : ℕ) → Sub n T O → GreatestOf n l T u → soonest n l p O y + total_of n p T ≤ u + lead n p
  unfolding soonest
  soonest_least y T u h g =
      let k = g.at in
      let s = total_of_sub n p T (under l O (l ! k)) (sub_under T (l ! k) h (λ i c t. omega (arith, g.greatest i c t, g.is))) in
      omega (arith, g.is, (fewest_le O (start_of n l p O) y n).1 k g.below (h k g.below g.member), lead_all n p (under l O (l ! k)))

  pub soonest_is : (y : ℕ) → soonest n l p O y < y → Soonest n l p O (soonest n l p O y)
  unfolding soonest
  soonest_is y h = go (fewest_is O (start_of n l p O) y n)
    where
      go : (soonest n l p O y ≡ y) ⊎ ((k : ℕ) × (k < n) × (O k ≡ true) × (soonest n l p O y ≡ start_of n l p O k)) → Soonest n l p O (soonest n l p O y)
      go (inl q) = absurd (omega arith)
      go (inr (k, b, t, q)) =
          record {
            T = under l O (l ! k);
            sub = under_sub (l ! k);
            upto = l ! k;
            greatest = threshold_greatest k b t;
            is = omega (arith, q, lead_all n p (under l O (l ! k)));
            least = λ T' u s x. soonest_least y T' u s x;
          }

  -- as a bound, which stops at 0
  pub soonest_begins : (c : ℕ) → (x : Soonest n l p O c) → Begins n l p x.T (c - lead n p)
  soonest_begins c x = record { upto = x.upto; greatest = x.greatest; is = omega (arith, x.is, lead_all n p x.T) }
