-- A node's completion with a tail after it: the jobs of its places and, as the tail, the total duration of those after them. Where the
-- completion with the tail does not exceed b, no job of those places does with all jobs from its place on.
use Prim.Native.Nat.{ℕ, ◌+◌, ◌-◌, ◌≤◌, ◌<◌}
use native.Mathlib.Omega.{arith}
use native.Mathlib.Decide.{dec_lt}
use mathlib.Core.Path.{◌≡◌, refl, ap, ◌∙◌}
use mathlib.Core.Bool.{Bool, true, false}
use mathlib.Core.List.{List}
use mathlib.Core.Logic.{inl, inr}
use mathlib.Core.Option.{Option, none, some}
use lib.Dec.{ltb}
use lib.IntN.{ℤ, pos, ◌+ℤ◌}
use lib.Signed.{lt_z}
use borrow.Author.Tests.{ltb-false}
use Rattle.lists.specs.Lists.{◌!◌}
use Rattle.lists.specs.Tests.{pick}
use Rattle.lists.specs.Sets.{Set, Sub, Parts, total_of, Ends, Completes, later}
use Rattle.lists.proofs.Sets.{clash, total_of_sub, total_of_parts}
use Rattle.theta.specs.Theta.{far, signed, Places, at_leaves, onward}
use Rattle.theta.proofs.Nodes.{empty_plus, leaves_in, in_leaves, onward_in, in_onward}

-- a completion with a tail after it exceeds b; no job, no completion
abbrev pub exceeds : Option ℕ → ℕ → ℕ → Bool
exceeds none t b = false
exceeds (some c) t b = ltb b (c + t)

-- as a node holds it
signed_exceeds : (x : Option ℕ) (t b : ℕ) → t < far → lt_z (pos b) (signed x +ℤ pos t) ≡ exceeds x t b
signed_exceeds none t b h = rw (empty_plus t h)
signed_exceeds (some c) t b h = refl

pub held_exceeds : (z : ℤ) (x : Option ℕ) (t b : ℕ) → z ≡ signed x → t < far → lt_z (pos b) (z +ℤ pos t) ≡ exceeds x t b
held_exceeds z x t b e h = ap (λ (y : ℤ). lt_z (pos b) (y +ℤ pos t)) e ∙ signed_exceeds x t b h

-- where both parts together exceed b and the right one does not, the left one does with the right total in the tail
pub exceeds_left : (x y : Option ℕ) (r t b : ℕ) → exceeds (later x y r) t b ≡ true → exceeds y t b ≡ false → exceeds x (t + r) b ≡ true
exceeds_left none none r t b h g = h
exceeds_left none (some y) r t b h g = clash (ltb b (y + t)) h g
exceeds_left (some x) none r t b h g = ap (ltb b) (omega arith) ∙ h
exceeds_left (some x) (some y) r t b h g = go (ltb (x + r) y) h
  where
    go : (c : Bool) → ltb b (pick c y (x + r) + t) ≡ true → ltb b (x + (t + r)) ≡ true
    go true q = clash (ltb b (y + t)) q g
    go false q = ap (ltb b) (omega arith) ∙ q

module _ (n : ℕ) (p : List ℕ) (σ : ℕ → ℕ) (O : Set) where
  -- a tail is small
  pub tail_small : total_of n p O < far → (a : ℕ) → total_of n p (onward σ O a) < far
  tail_small small a = omega (arith, total_of_sub n p (onward σ O a) O (λ k c u. (onward_in σ O a k u).0))

  -- the jobs from place a on are the s places' and those after them
  pub onward_parts : (a s : ℕ) → Parts n (onward σ O a) (at_leaves σ O a s) (onward σ O (a + s))
  onward_parts a s =
      record {
        left = λ k c t. let q = leaves_in σ O a s k t in in_onward σ O a k q.0 q.1;
        right = λ k c t. let q = onward_in σ O (a + s) k t in in_onward σ O a k q.0 (omega arith);
        each = λ k c t.
            let q = onward_in σ O a k t in
            elim (dec_lt (σ k) (a + s)) [ yes d ↦ inl (in_leaves σ O a s k q.0 q.1 d) | no d ↦ inr (in_onward σ O (a + s) k q.0 (omega arith)) ];
        apart = λ k c t u. let q = leaves_in σ O a s k t in let r = onward_in σ O (a + s) k u in omega arith;
      }

  -- a job of the s places from a, with all jobs from its place on, completes no later than those places' completion with the tail
  pub through : (m : ℕ) (e : List ℕ) → Places n m e σ → (b a s : ℕ) (x : Option ℕ) → Completes n e p (at_leaves σ O a s) x
      → exceeds x (total_of n p (onward σ O (a + s))) b ≡ false
      → (i : ℕ) → i < n → O i ≡ true → a ≤ σ i → σ i < a + s → e ! i + total_of n p (onward σ O (σ i)) ≤ b
  through m e places b a s none l f i c t h g = absurd (l i c (in_leaves σ O a s i t h g))
  through m e places b a s (some x) l f i c t h g =
      let r = a + s - σ i in
      let same : σ i + r ≡ a + s = omega arith in
      let U = at_leaves σ O (σ i) r in
      let sub : Sub n U (at_leaves σ O a s) = λ k d u. let q = leaves_in σ O (σ i) r k u in in_leaves σ O a s k q.0 (omega arith) (omega arith) in
      let ends-U : Ends n e p U (e ! i + total_of n p U) =
      record {
        from = e ! i;
        least = record {
          at = i;
          below = c;
          member = in_leaves σ O (σ i) r i t (omega arith) (omega arith);
          is = refl;
          least = λ k d u. places.rising i k c d (leaves_in σ O (σ i) r k u).1;
        };
        is = refl;
      } in
      let parts = rw same at (total_of_parts n p (onward σ O (σ i)) U (onward σ O (σ i + r)) (onward_parts (σ i) r)) in
      omega (arith, ltb-false, l.most U (e ! i + total_of n p U) sub ends-U, parts)
