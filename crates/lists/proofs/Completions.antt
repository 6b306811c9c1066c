-- 001's completion of a set from those of its two parts, where the left part's e are no greater than the right part's (2.20, 2.21, 2.22),
-- and of a set of one. All over any sets, straight from the maximum over the non-empty subsets.
use Prim.Native.Nat.{ℕ, ◌+◌, ◌≤◌, ◌<◌}
use native.Mathlib.Omega.{arith}
use mathlib.Core.Path.{◌≡◌, refl}
use mathlib.Core.Bool.{Bool, true, false}
use mathlib.Core.List.{List}
use mathlib.Core.Logic.{◌⊎◌, inl, inr}
use mathlib.Core.Option.{Option, none, some}
use lib.Dec.{ltb}
use borrow.Author.Tests.{ltb-true, ltb-false}
use Rattle.lists.specs.Lists.{◌!◌}
use Rattle.lists.specs.Tests.{both, either, only, pick, some?}
use Rattle.lists.specs.Sets.{Set, Sub, Parts, total_of, Ends, Latest, Completes, later}
use Rattle.lists.proofs.Tests.{both_true, true_both, either_left, either_right, either_true}
use Rattle.lists.proofs.Differences.{total_zeros, total_change}
use Rattle.lists.proofs.Sets.{clash, total_of_sub, total_of_parts, least_of, some_at, at_some}

module _ (n : ℕ) (e p : List ℕ) (T L R : Set) (h : Parts n T L R) where
  -- of a subset with members in L, those alone complete no earlier than all of R before the whole
  ends_parts : (U : Set) (b : ℕ) → Sub n U T → Ends n e p U b → (Sub n U R) ⊎ ((c : ℕ) × Ends n e p (λ k. both (U k) (L k)) c × (b ≤ c + total_of n p R))
  ends_parts U b s x = go (some? (λ k. both (U k) (L k)) n) refl
    where
      parts : Parts n U (λ k. both (U k) (L k)) (λ k. both (U k) (R k))
      parts =
          record {
            left = λ k c t. (both_true (U k) (L k) t).0;
            right = λ k c t. (both_true (U k) (R k) t).0;
            each = λ k c t. elim (h.each k c (s k c t)) [ inl q ↦ inl (true_both (U k) (L k) t q) | inr q ↦ inr (true_both (U k) (R k) t q) ];
            apart = λ k c t u. h.apart k c (both_true (U k) (L k) t).1 (both_true (U k) (R k) u).1;
          }

      go : (c : Bool) → some? (λ k. both (U k) (L k)) n ≡ c → (Sub n U R) ⊎ ((c : ℕ) × Ends n e p (λ k. both (U k) (L k)) c × (b ≤ c + total_of n p R))
      go true q =
          let k = at_some (λ k. both (U k) (L k)) n q in
          let l = least_of n e (λ k. both (U k) (L k)) k.0 k.1 k.2 in
          let m = l.1 in
          let low = x.least.least m.at m.below (both_true (U m.at) (L m.at) m.member).0 in
          inr (
            l.0 + total_of n p (λ k. both (U k) (L k)),
            record { from = l.0; least = m; is = refl },
            omega (arith, m.is, x.is, total_of_parts n p U _ _ parts, total_of_sub n p (λ k. both (U k) (R k)) R (λ k c t. (both_true (U k) (R k) t).1)),
          )
      go false q =
          inl (λ k c t.
          elim (h.each k c (s k c t)) [
            | inl i ↦ clash (some? (λ k. both (U k) (L k)) n) (some_at (λ k. both (U k) (L k)) n k c (true_both (U k) (L k) t i)) q
            | inr i ↦ i
          ])

  module _ (rising : (i k : ℕ) → i < n → k < n → L i ≡ true → R k ≡ true → e ! i ≤ e ! k) where
    -- a subset of L with all of R after it
    with_right : (U : Set) (b : ℕ) → Sub n U L → Ends n e p U b → Ends n e p (λ k. either (U k) (R k)) (b + total_of n p R)
    with_right U b s x =
        let l = x.least in
        record {
          from = x.from;
          least = record {
            at = l.at;
            below = l.below;
            member = either_left (U l.at) (R l.at) l.member;
            is = l.is;
            least = λ k c t.
                elim (either_true (U k) (R k) t) [
                  | inl q ↦ l.least k c q
                  | inr q ↦ omega (arith, l.is, rising l.at k l.below c (s l.at l.below l.member) q)
                ];
          };
          is = omega (arith, x.is, total_of_parts n p (λ k. either (U k) (R k)) U R parts);
        }
      where
        parts : Parts n (λ k. either (U k) (R k)) U R
        parts =
            record {
              left = λ k c t. either_left (U k) (R k) t;
              right = λ k c t. either_right (U k) (R k) t;
              each = λ k c t. either_true (U k) (R k) t;
              apart = λ k c t u. h.apart k c (s k c t) u;
            }

    joined_sub : (U : Set) → Sub n U L → Sub n (λ k. either (U k) (R k)) T
    joined_sub U s k c t = elim (either_true (U k) (R k) t) [ inl q ↦ h.left k c (s k c q) | inr q ↦ h.right k c q ]

    -- the left part's latest set with all of R after it is the latest of T, unless R has a later one
    latest_through : (x : ℕ) → Latest n e p L x → ((U : Set) (b : ℕ) → Sub n U R → Ends n e p U b → b ≤ x + total_of n p R) → Latest n e p T (x + total_of n p R)
    latest_through x l f =
        record {
          T = λ k. either (l.T k) (R k);
          sub = joined_sub l.T l.sub;
          ends = with_right l.T x l.sub l.ends;
          most = λ U b s u.
              elim (ends_parts U b s u) [
                | inl q ↦ f U b q u
                | inr q ↦ omega (arith, q.2, l.most (λ k. both (U k) (L k)) q.0 (λ k c t. (both_true (U k) (L k) t).1) q.1)
              ];
        }

    latest_right : (y : ℕ) → Latest n e p R y → ((U : Set) (b : ℕ) → Sub n U L → Ends n e p U b → b + total_of n p R ≤ y) → Latest n e p T y
    latest_right y r f =
        record {
          T = r.T;
          sub = λ k c t. h.right k c (r.sub k c t);
          ends = r.ends;
          most = λ U b s u.
              elim (ends_parts U b s u) [
                | inl q ↦ r.most U b q u
                | inr q ↦ omega (arith, q.2, f (λ k. both (U k) (L k)) q.0 (λ k c t. (both_true (U k) (L k) t).1) q.1)
              ];
        }

    pub completes_parts : (x y : Option ℕ) → Completes n e p L x → Completes n e p R y → Completes n e p T (later x y (total_of n p R))
    completes_parts none none l r = λ k c t. elim (h.each k c t) [ inl q ↦ l k c q | inr q ↦ r k c q ]
    completes_parts none (some y) l r =
        latest_right y r (λ U b s u. absurd (l u.least.at u.least.below (s u.least.at u.least.below u.least.member)))
    completes_parts (some x) none l r =
        latest_through x l (λ U b s u. absurd (r u.least.at u.least.below (s u.least.at u.least.below u.least.member)))
    completes_parts (some x) (some y) l r = go (ltb (x + total_of n p R) y) refl
      where
        go : (c : Bool) → ltb (x + total_of n p R) y ≡ c → Latest n e p T (pick c y (x + total_of n p R))
        go true q = latest_right y r (λ U b s u. omega (arith, ltb-true, l.most U b s u))
        go false q = latest_through x l (λ U b s u. omega (arith, ltb-false, r.most U b s u))

-- ---- a set of one

module _ (n : ℕ) (p : List ℕ) (T : Set) (k : ℕ) (b : k < n) (t : T k ≡ true) (one : (j : ℕ) → j < n → T j ≡ true → j ≡ k) where
  pub total_of_one : total_of n p T ≡ p ! k
  unfolding total_of
  total_of_one =
      omega (
        arith,
        total_zeros n,
        total_change (λ j. 0) (λ j. only (T j) (p ! j)) k (p ! k) n (λ j c d. go j c d (T j) refl) (rw t (omega arith)) b,
      )
    where
      go : (j : ℕ) → j < n → (j ≡ k → ⊥) → (c : Bool) → T j ≡ c → only (T j) (p ! j) ≡ 0
      go j c d true e = absurd (d (one j c e))
      go j c d false e = rw e

  pub completes_one : (e : List ℕ) → Latest n e p T (e ! k + p ! k)
  completes_one e =
      record {
        T = T;
        sub = λ j c u. u;
        ends = record {
          from = e ! k;
          least = record { at = k; below = b; member = t; is = refl; least = λ j c u. rw (one j c u) (omega arith) };
          is = omega (arith, total_of_one);
        };
        most = λ U c s u.
            let l = u.least in
            let q : l.at ≡ k = one l.at l.below (s l.at l.below l.member) in
            let f : e ! l.at ≡ e ! k = rw q in
            omega (arith, u.is, l.is, total_of_sub n p U T s, total_of_one);
      }

-- ---- sets with the same members

pub completes_alike : (n : ℕ) (e p : List ℕ) (T O : Set) → Sub n T O → Sub n O T → (x : Option ℕ) → Completes n e p T x → Completes n e p O x
completes_alike n e p T O h g none c = λ k b t. c k b (g k b t)
completes_alike n e p T O h g (some y) c =
    record {
      T = c.T;
      sub = λ k b t. h k b (c.sub k b t);
      ends = c.ends;
      most = λ U b s u. c.most U b (λ k d t. g k d (s k d t)) u;
    }
