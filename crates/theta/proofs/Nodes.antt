-- What the nodes of a Theta-tree hold, over any number of leaves and any set of jobs: the total duration of the jobs below (2.20), and the
-- greatest least-e-plus-total over the non-empty sets of them (2.22), or the empty value where there is none.
use Prim.Native.Nat.{ℕ, zero, suc, ◌+◌, ◌-◌, ◌*◌, ◌^◌, ◌≤◌, ◌<◌}
use native.Mathlib.Omega.{arith}
use native.Mathlib.Nat.{add-mul, mul_assoc, mul_comm, mul-suc, pow-suc, pow-zero, mul-one, mul-le-mul_right, one-mul}
use native.Mathlib.Decide.{dec_lt}
use mathlib.Core.Path.{◌≡◌, refl, sym, ap, ◌∙◌}
use mathlib.Core.Bool.{Bool, true, false, cond}
use mathlib.Core.List.{List}
use mathlib.Core.Logic.{inl, inr}
use mathlib.Core.Option.{Option, none, some}
use lib.Dec.{leb, ltb}
use lib.IntN.{ℤ, pos, negsuc, ◌+ℤ◌}
use lib.Signed.{lt_z}
use lib.Pow.{pow_pos}
use borrow.Author.Tests.{leb-true, ltb-true, le-leb, lt-ltb}
use Rattle.joblist.specs.Limits.{most_jobs, most_time}
use Rattle.lists.specs.Lists.{◌!◌}
use Rattle.lists.specs.Tests.{both, pick, some?}
use Rattle.lists.specs.Sets.{Set, Sub, Empty, Parts, total_of, Completes, later}
use Rattle.lists.proofs.Tests.{both_true}
use Rattle.lists.proofs.Sets.{clash, total_of_sub, total_of_empty, total_of_parts, some_at, at_some, total_of_limit, total_of_same}
use Rattle.lists.proofs.Completions.{completes_parts, total_of_one, completes_one, completes_alike}
use Rattle.lists.proofs.Signed.{sub_lt}
use Rattle.theta.specs.Theta.{far, end_of, empty, signed, joined, Joins, Places, HoldsSet, at_leaves, onward}

-- ---- the empty value

-- the empty value plus a total stays negative
pub empty_plus : (t : ℕ) → t < far → empty +ℤ pos t ≡ negsuc (far - suc t)
empty_plus t h = sub_lt t far h

-- so it lies below every time
empty_early : (t c : ℕ) → t < far → lt_z (empty +ℤ pos t) (pos c) ≡ true
empty_early t c h = rw (empty_plus t h)

-- the total duration of jobs within the limits
pub total_most : (n : ℕ) (p : List ℕ) (T : Set) → n ≤ most_jobs → ((k : ℕ) → p ! k ≤ most_time) → total_of n p T ≤ most_jobs * most_time
total_most n p T h f = omega (arith, total_of_limit n p T most_time f, mul-le-mul_right most_time h)

-- with any such total after it, the empty value lies below every earliest start and latest end, and below -1,000,000
pub empty_below : (n : ℕ) (p : List ℕ) (T : Set) → n ≤ most_jobs → ((k : ℕ) → p ! k ≤ most_time)
    → ((c : ℕ) → lt_z (empty +ℤ pos (total_of n p T)) (pos c) ≡ true) × (lt_z (empty +ℤ pos (total_of n p T)) (negsuc 999999) ≡ true)
empty_below n p T h f =
    let m = total_most n p T h f in (
      λ c. empty_early (total_of n p T) c (omega arith),
      rw (empty_plus (total_of n p T) (omega arith)) (lt-ltb 999999 (far - suc (total_of n p T)) (omega arith)),
    )

-- a node made from its children holds the completion of both
pub signed_joined : (x y : Option ℕ) (t : ℕ) → t < far → (x ≡ none → y ≡ none → t ≡ 0) → joined (signed x) (signed y) t ≡ signed (later x y t)
signed_joined none none t h z = rw (z refl refl)
signed_joined none (some y) t h z = rw (empty_early t y h)
signed_joined (some x) none t h z = refl
signed_joined (some x) (some y) t h z = go (ltb (x + t) y)
  where
    go : (c : Bool) → cond c (pos y) (pos (x + t)) ≡ signed (some (pick c y (x + t)))
    go true = refl
    go false = refl

-- ---- the jobs below a node

module _ (σ : ℕ → ℕ) (O : Set) where
  pub leaves_in : (a s j : ℕ) → at_leaves σ O a s j ≡ true → (O j ≡ true) × (a ≤ σ j) × (σ j < a + s)
  leaves_in a s j h =
      let q = both_true (O j) (both (leb a (σ j)) (ltb (σ j) (a + s))) h in
      let r = both_true (leb a (σ j)) (ltb (σ j) (a + s)) q.1 in
      (q.0, leb-true a (σ j) r.0, ltb-true (σ j) (a + s) r.1)

  pub in_leaves : (a s j : ℕ) → O j ≡ true → a ≤ σ j → σ j < a + s → at_leaves σ O a s j ≡ true
  in_leaves a s j t h g = rw (t, le-leb a (σ j) h) (lt-ltb (σ j) (a + s) g)

  pub onward_in : (a j : ℕ) → onward σ O a j ≡ true → (O j ≡ true) × (a ≤ σ j)
  onward_in a j h = let q = both_true (O j) (leb a (σ j)) h in (q.0, leb-true a (σ j) q.1)

  pub in_onward : (a j : ℕ) → O j ≡ true → a ≤ σ j → onward σ O a j ≡ true
  in_onward a j t h = rw t (le-leb a (σ j) h)

  -- a node's jobs are its left child's and its right child's
  pub leaves_parts : (n a s : ℕ) → Parts n (at_leaves σ O a (s * 2)) (at_leaves σ O a s) (at_leaves σ O (a + s) s)
  leaves_parts n a s =
      record {
        left = λ k b t. let q = leaves_in a s k t in in_leaves a (s * 2) k q.0 q.1 (omega arith);
        right = λ k b t. let q = leaves_in (a + s) s k t in in_leaves a (s * 2) k q.0 (omega arith) (omega arith);
        each = λ k b t.
            let q = leaves_in a (s * 2) k t in
            elim (dec_lt (σ k) (a + s)) [ yes c ↦ inl (in_leaves a s k q.0 q.1 c) | no c ↦ inr (in_leaves (a + s) s k q.0 (omega arith) (omega arith)) ];
        apart = λ k b t u. let q = leaves_in a s k t in let r = leaves_in (a + s) s k u in omega arith;
      }

-- ---- places in the tree, for a node v whose s leaves start at place a

-- a node with 2s leaves is an inner one
pub inner : (m v a s : ℕ) → 1 ≤ s → v * (s * 2) ≡ m + a → a + s * 2 ≤ m → (1 ≤ v) × (v < m)
inner m zero a s h e f = absurd (omega arith)
inner m (suc v) a zero h e f = absurd (omega arith)
inner m (suc v) a (suc s) h e f = omega (arith, mul_assoc (suc v) (suc s) 2, mul-suc (suc v) s, mul_comm (suc v) s)

pub left_child : (m v a s : ℕ) → v * (s * 2) ≡ m + a → (2 * v) * s ≡ m + a
left_child m v a s e = omega (arith, mul_assoc v s 2, mul_assoc 2 v s)

pub right_child : (m v a s : ℕ) → v * (s * 2) ≡ m + a → (2 * v + 1) * s ≡ m + (a + s)
right_child m v a s e = omega (arith, left_child m v a s e, add-mul (2 * v) 1 s)

-- ---- what a node holds

-- the node's completion, and that it is the set's
abbrev pub Held : ℕ → List ℕ → List ℕ → Set → ℤ → Type 0
Held n e p T z = (x : Option ℕ) × (z ≡ signed x) × Completes n e p T x

module _ (n m : ℕ) (e p : List ℕ) (σ : ℕ → ℕ) (O : Set) (sums : List ℕ) (ends : List ℤ)
    (places : Places n m e σ) (holds : HoldsSet n m e p σ O sums ends) (small : total_of n p O < far) where
  -- a leaf: its job's duration and earliest end, or nothing
  leaf : (a : ℕ) → a < m → (sums ! (m + a) ≡ total_of n p (at_leaves σ O a 1)) × Held n e p (at_leaves σ O a 1) (end_of ends (m + a))
  leaf a b = go (some? (at_leaves σ O a 1) n) refl
    where
      go : (c : Bool) → some? (at_leaves σ O a 1) n ≡ c → (sums ! (m + a) ≡ total_of n p (at_leaves σ O a 1)) × Held n e p (at_leaves σ O a 1) (end_of ends (m + a))
      go true h =
          let k = at_some (at_leaves σ O a 1) n h in
          let q = leaves_in σ O a 1 k.0 k.2 in
          let f : a ≡ σ k.0 = omega arith in
          let one : (j : ℕ) → j < n → at_leaves σ O a 1 j ≡ true → j ≡ k.0 =
          λ j c t. let r = leaves_in σ O a 1 j t in places.apart j k.0 c k.1 (omega arith) in (
            ap (λ (x : ℕ). sums ! (m + x)) f ∙ holds.full_sum k.0 k.1 q.0 ∙ sym (total_of_one n p (at_leaves σ O a 1) k.0 k.1 k.2 one),
            (
              some (e ! k.0 + p ! k.0),
              ap (λ (x : ℕ). end_of ends (m + x)) f ∙ holds.full_end k.0 k.1 q.0,
              completes_one n p (at_leaves σ O a 1) k.0 k.1 k.2 one e,
            ),
          )
      go false h =
          let none_here : Empty n (at_leaves σ O a 1) = λ k c t. clash (some? (at_leaves σ O a 1) n) (some_at (at_leaves σ O a 1) n k c t) h in
          let bare : (j : ℕ) → j < n → O j ≡ true → σ j ≡ a → ⊥ = λ j c t f. none_here j c (in_leaves σ O a 1 j t (omega arith) (omega arith)) in
          (holds.bare_sum a b bare ∙ sym (total_of_empty n p (at_leaves σ O a 1) none_here), (none, holds.bare_end a b bare, none_here))

  -- an inner node, from its children
  node_from : (v a s : ℕ) → Joins sums ends v
      → (sums ! (2 * v) ≡ total_of n p (at_leaves σ O a s)) × Held n e p (at_leaves σ O a s) (end_of ends (2 * v))
      → (sums ! (2 * v + 1) ≡ total_of n p (at_leaves σ O (a + s) s)) × Held n e p (at_leaves σ O (a + s) s) (end_of ends (2 * v + 1))
      → (sums ! v ≡ total_of n p (at_leaves σ O a (s * 2))) × Held n e p (at_leaves σ O a (s * 2)) (end_of ends v)
  node_from v a s j (f, (x, g, l)) (f', (y, g', r)) =
      let parts = leaves_parts σ O n a s in
      let t = total_of_sub n p (at_leaves σ O (a + s) s) O (λ k b u. (leaves_in σ O (a + s) s k u).0) in (
        omega (arith, j.sum_is, total_of_parts n p _ _ _ parts),
        (
          later x y (total_of n p (at_leaves σ O (a + s) s)),
          j.end_is ∙ rw (g, g', f') (signed_joined x y (total_of n p (at_leaves σ O (a + s) s)) (omega arith) (λ u w. total_of_empty n p (at_leaves σ O (a + s) s) (rw w at r))),
          completes_parts n e p (at_leaves σ O a (s * 2)) (at_leaves σ O a s) (at_leaves σ O (a + s) s) parts
              (λ i k b c u w.
              let q = leaves_in σ O a s i u in
              let q' = leaves_in σ O (a + s) s k w in
              places.rising i k b c (omega arith)) x y l r,
        ),
      )

  -- the total duration and the completion of the jobs below node v, whose 2 ^ h leaves start at place a
  pub node : (h v a : ℕ) → v * 2 ^ h ≡ m + a → a + 2 ^ h ≤ m → (sums ! v ≡ total_of n p (at_leaves σ O a (2 ^ h))) × Held n e p (at_leaves σ O a (2 ^ h)) (end_of ends v)
  node zero v a f g = rw (pow-zero 2) (rw (v-is) (leaf a (omega (arith, rw (pow-zero 2) at g))))
    where
      v-is : v ≡ m + a
      v-is = omega (arith, rw (pow-zero 2, mul-one v) at f)
  node (suc h) v a f g =
      let f' : v * (2 ^ h * 2) ≡ m + a = rw (pow-suc 2 h) at f in
      let g' : a + 2 ^ h * 2 ≤ m = rw (pow-suc 2 h) at g in
      let i = inner m v a (2 ^ h) (pow_pos h) f' g' in
      rw (pow-suc 2 h)
      (node_from v a (2 ^ h) (holds.joins v i.0 i.1)
      (node h (2 * v) a (left_child m v a (2 ^ h) f') (omega arith))
      (node h (2 * v + 1) (a + 2 ^ h) (right_child m v a (2 ^ h) f') (omega arith)))

  -- and so at the root: all jobs in the tree
  pub root : (d : ℕ) → m ≡ 2 ^ d → (sums ! 1 ≡ total_of n p O) × Held n e p O (end_of ends 1)
  root d is =
      let k = node d 1 0 (omega (arith, one-mul (2 ^ d))) (omega arith) in
      let down : Sub n (at_leaves σ O 0 (2 ^ d)) O = λ j b t. (leaves_in σ O 0 (2 ^ d) j t).0 in
      let up : Sub n O (at_leaves σ O 0 (2 ^ d)) = λ j b t. in_leaves σ O 0 (2 ^ d) j t (omega arith) (omega (arith, places.into j b)) in (
        k.0 ∙ total_of_same n p (at_leaves σ O 0 (2 ^ d)) O down up,
        (k.1.0, k.1.1, completes_alike n e p (at_leaves σ O 0 (2 ^ d)) O down up k.1.0 k.1.2),
      )
