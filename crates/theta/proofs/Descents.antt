-- The descent from the root for the greatest a. At node v, whose s leaves start at place a, the tail is the total duration of the jobs
-- after them; v's completion with the tail after it exceeds b, and no job after them, with all jobs from its place on, does.
use Prim.Native.Nat.{ℕ, zero, suc, ◌+◌, ◌*◌, ◌^◌, ◌≤◌, ◌<◌}
use native.Mathlib.Omega.{arith}
use native.Mathlib.Nat.{mul-one, pow-suc, pow-zero, one-mul}
use native.Mathlib.Decide.{dec_lt}
use mathlib.Core.Path.{◌≡◌, refl, sym, ap, ◌∙◌}
use mathlib.Core.Bool.{Bool, true, false}
use mathlib.Core.List.{List}
use mathlib.Core.Option.{Option, none, some}
use lib.IntN.{ℤ, pos, ◌+ℤ◌}
use lib.Pow.{pow_pos}
use lib.Signed.{lt_z}
use borrow.Author.Tests.{ltb-true}
use Rattle.lists.specs.Lists.{◌!◌}
use Rattle.lists.specs.Tests.{pick}
use Rattle.lists.specs.Sets.{Set, total_of, Completes, later}
use Rattle.lists.proofs.Sets.{clash, total_of_sub, total_of_empty, total_of_parts}
use Rattle.theta.specs.Theta.{far, end_of, signed, Places, HoldsSet, at_leaves, onward, descent}
use Rattle.theta.proofs.Nodes.{signed_joined, leaves_in, onward_in, inner, left_child, right_child, Held, node}
use Rattle.theta.proofs.Tails.{exceeds, held_exceeds, exceeds_left, tail_small, onward_parts, through}

pub record Descent (n m : ℕ) (e p : List ℕ) (σ : ℕ → ℕ) (O : Set) (ends : List ℤ) (b v t h a : ℕ) : Type 0 where
  pub at : v * 2 ^ h ≡ m + a
  pub fits : a + 2 ^ h ≤ m
  pub tail : t ≡ total_of n p (onward σ O (a + 2 ^ h))
  pub over : lt_z (pos b) (end_of ends v +ℤ pos t) ≡ true
  pub after : (i : ℕ) → i < n → O i ≡ true → a + 2 ^ h ≤ σ i → e ! i + total_of n p (onward σ O (σ i)) ≤ b

-- the end at place x: its job, with all jobs from its place on, exceeds b, and no job after it does
pub record Last (n : ℕ) (e p : List ℕ) (σ : ℕ → ℕ) (O : Set) (b x j : ℕ) : Type 0 where
  pub below : j < n
  pub member : O j ≡ true
  pub place : σ j ≡ x
  pub over : b < e ! j + total_of n p (onward σ O x)
  pub after : (i : ℕ) → i < n → O i ≡ true → x < σ i → e ! i + total_of n p (onward σ O (σ i)) ≤ b

module _ (n m : ℕ) (e p : List ℕ) (σ : ℕ → ℕ) (O : Set) (sums : List ℕ) (ends : List ℤ)
    (places : Places n m e σ) (holds : HoldsSet n m e p σ O sums ends) (small : total_of n p O < far) (b : ℕ) where
  abbrev tail_under : (a : ℕ) → total_of n p (onward σ O a) < far
  tail_under = tail_small n p σ O small

  -- no job has a place after all leaves
  none_after : (d : ℕ) → m ≡ 2 ^ d → total_of n p (onward σ O (0 + 2 ^ d)) ≡ 0
  none_after d f = total_of_empty n p (onward σ O (0 + 2 ^ d)) (λ k c u. let q = onward_in σ O (0 + 2 ^ d) k u in omega (arith, places.into k c))

  descent_start : (d : ℕ) → m ≡ 2 ^ d → lt_z (pos b) (end_of ends 1 +ℤ pos 0) ≡ true → Descent n m e p σ O ends b 1 0 d 0
  descent_start d f over =
      record {
        at = omega (arith, one-mul (2 ^ d));
        fits = omega arith;
        tail = sym (none_after d f);
        over = over;
        after = λ i c t q. absurd (omega (arith, places.into i c));
      }

  module _ (v t h a : ℕ) (D : Descent n m e p σ O ends b v t (suc h) a) where
    at' : v * (2 ^ h * 2) ≡ m + a
    at' = rw (pow-suc 2 h) at D.at

    fits' : a + 2 ^ h * 2 ≤ m
    fits' = rw (pow-suc 2 h) at D.fits

    left_node : (sums ! (2 * v) ≡ total_of n p (at_leaves σ O a (2 ^ h))) × Held n e p (at_leaves σ O a (2 ^ h)) (end_of ends (2 * v))
    left_node = node n m e p σ O sums ends places holds small h (2 * v) a (left_child m v a (2 ^ h) at') (omega (arith, fits'))

    right_node : (sums ! (2 * v + 1) ≡ total_of n p (at_leaves σ O (a + 2 ^ h) (2 ^ h))) × Held n e p (at_leaves σ O (a + 2 ^ h) (2 ^ h)) (end_of ends (2 * v + 1))
    right_node = node n m e p σ O sums ends places holds small h (2 * v + 1) (a + 2 ^ h) (right_child m v a (2 ^ h) at') (omega (arith, fits'))

    two : a + 2 ^ suc h ≡ a + 2 ^ h + 2 ^ h
    two = omega (arith, pow-suc 2 h)

    go_right : lt_z (pos b) (end_of ends (2 * v + 1) +ℤ pos t) ≡ true → Descent n m e p σ O ends b (2 * v + 1) t h (a + 2 ^ h)
    go_right q =
        record {
          at = right_child m v a (2 ^ h) at';
          fits = omega (arith, fits');
          tail = D.tail ∙ ap (λ (x : ℕ). total_of n p (onward σ O x)) two;
          over = q;
          after = λ i c u r. D.after i c u (omega (arith, two));
        }

    -- neither the right completion nor, then, any job of the right part exceeds b with the tail after it
    module _ (q : lt_z (pos b) (end_of ends (2 * v + 1) +ℤ pos t) ≡ false) where
      abbrev x : Option ℕ
      x = left_node.1.0

      abbrev y : Option ℕ
      y = right_node.1.0

      abbrev r : ℕ
      r = sums ! (2 * v + 1)

      tail-is : t ≡ total_of n p (onward σ O (a + 2 ^ h + 2 ^ h))
      tail-is = D.tail ∙ ap (λ (z : ℕ). total_of n p (onward σ O z)) two

      t_small : t < far
      t_small = omega (arith, tail-is, tail_under (a + 2 ^ h + 2 ^ h))

      tail_next : t + r ≡ total_of n p (onward σ O (a + 2 ^ h))
      tail_next = omega (arith, tail-is, right_node.0, total_of_parts n p _ _ _ (onward_parts n p σ O (a + 2 ^ h) (2 ^ h)))

      next_small : t + r < far
      next_small = omega (arith, tail_next, tail_under (a + 2 ^ h))

      right_short : exceeds y t b ≡ false
      right_short = sym (held_exceeds (end_of ends (2 * v + 1)) y t b right_node.1.1 t_small) ∙ q

      whole : end_of ends v ≡ signed (later x y r)
      whole =
          let i = inner m v a (2 ^ h) (pow_pos h) at' fits' in
          (holds.joins v i.0 i.1).end_is
          ∙ rw (left_node.1.1, right_node.1.1)
          (signed_joined x y r (omega (arith, next_small)) (λ u w. right_node.0 ∙ total_of_empty n p (at_leaves σ O (a + 2 ^ h) (2 ^ h)) (rw w at right_node.1.2)))

      left_over : exceeds x (t + r) b ≡ true
      left_over = exceeds_left x y r t b (sym (held_exceeds (end_of ends v) (later x y r) t b whole t_small) ∙ D.over) right_short

      go_left : Descent n m e p σ O ends b (2 * v) (t + r) h a
      go_left =
          record {
            at = left_child m v a (2 ^ h) at';
            fits = omega (arith, fits');
            tail = tail_next;
            over = held_exceeds (end_of ends (2 * v)) x (t + r) b left_node.1.1 next_small ∙ left_over;
            after = λ i c u w.
                elim (dec_lt (σ i) (a + 2 ^ h + 2 ^ h)) [
                  | yes d ↦ through n p σ O m e places b (a + 2 ^ h) (2 ^ h) y right_node.1.2 (rw (sym tail-is) right_short) i c u w d
                  | no d ↦ D.after i c u (omega (arith, two))
                ];
          }

  descent_step : (v t h a : ℕ) → Descent n m e p σ O ends b v t (suc h) a → (right : Bool) → lt_z (pos b) (end_of ends (2 * v + 1) +ℤ pos t) ≡ right
      → (a' : ℕ) × Descent n m e p σ O ends b (pick right (2 * v + 1) (2 * v)) (pick right t (t + sums ! (2 * v + 1))) h a'
  descent_step v t h a D true q = (a + 2 ^ h, go_right v t h a D q)
  descent_step v t h a D false q = (a, go_left v t h a D q)

  descent_end : (v t a : ℕ) → Descent n m e p σ O ends b v t 0 a → (v ≡ m + a) × (a < m) × ((j : ℕ) × Last n e p σ O b a j)
  descent_end v t a D =
      let k = node n m e p σ O sums ends places holds small 0 v a D.at D.fits in (
        omega (arith, rw (pow-zero 2, mul-one v) at D.at),
        omega (arith, rw (pow-zero 2) at D.fits),
        go k.1.0 k.1.2 (sym (held_exceeds (end_of ends v) k.1.0 t b k.1.1 (omega (arith, D.tail, tail_under (a + 2 ^ 0)))) ∙ D.over),
      )
    where
      one : 2 ^ 0 ≡ 1
      one = pow-zero 2

      go : (x : Option ℕ) → Completes n e p (at_leaves σ O a (2 ^ 0)) x → exceeds x t b ≡ true → (j : ℕ) × Last n e p σ O b a j
      go none l q = clash false q refl
      go (some c) l q =
          let u = l.ends.least in
          let j = u.at in
          let r = leaves_in σ O a (2 ^ 0) j (l.sub j u.below u.member) in (
            j,
            record {
              below = u.below;
              member = r.0;
              place = omega (arith, one);
              over = omega (arith, ltb-true, u.is, l.ends.is, D.tail, total_of_sub n p l.T (at_leaves σ O a (2 ^ 0)) l.sub, total_of_parts n p _ _ _ (onward_parts n p σ O a (2 ^ 0)));
              after = λ i d w g. D.after i d w (omega (arith, one));
            },
          )

  descent_last : (h v t a : ℕ) → Descent n m e p σ O ends b v t h a → (x : ℕ) × (descent sums ends b h v t ≡ m + x) × (x < m) × ((j : ℕ) × Last n e p σ O b x j)
  unfolding descent
  descent_last zero v t a D = let q = descent_end v t a D in (a, q.0, q.1, q.2)
  descent_last (suc h) v t a D =
      let right = lt_z (pos b) (end_of ends (2 * v + 1) +ℤ pos t) in
      let q = descent_step v t h a D right refl in
      descent_last h (pick right (2 * v + 1) (2 * v)) (pick right t (t + sums ! (2 * v + 1))) q.0 q.1

  module _ (d : ℕ) (is : m ≡ 2 ^ d) where
    -- where the root exceeds b, the descent ends at the last place that does
    pub root_over : lt_z (pos b) (end_of ends 1 +ℤ pos 0) ≡ true → (x : ℕ) × (descent sums ends b d 1 0 ≡ m + x) × (x < m) × ((j : ℕ) × Last n e p σ O b x j)
    root_over q = descent_last d 1 0 0 (descent_start d is q)

    -- where it does not, no job with all jobs from its place on does
    pub root_short : lt_z (pos b) (end_of ends 1 +ℤ pos 0) ≡ false → (i : ℕ) → i < n → O i ≡ true → e ! i + total_of n p (onward σ O (σ i)) ≤ b
    root_short q i c t =
        let k = node n m e p σ O sums ends places holds small d 1 0 (omega (arith, one-mul (2 ^ d))) (omega arith) in
        through n p σ O m e places b 0 (2 ^ d) k.1.0 k.1.2
        (rw (none_after d is) (sym (held_exceeds (end_of ends 1) k.1.0 0 b k.1.1 (omega arith)) ∙ q))
        i c t (omega arith) (omega (arith, places.into i c))
