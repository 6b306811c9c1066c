-- A leaf is filled and the nodes above it are made right, one after the other. While node i is the last that changed, every inner node but
-- i's parent is what its children say. At the end the tree holds one job more.
use Prim.Native.Nat.{ℕ, ◌+◌, ◌*◌, ◌/◌, ◌≤◌, ◌<◌}
use native.Mathlib.Omega.{arith}
use native.Mathlib.Nat.{mul-le-mul_left, mul-le-mul_right}
use native.Mathlib.Decide.{ℕ_discrete}
use mathlib.Core.Path.{◌≡◌, refl, sym, ◌∙◌}
use mathlib.Core.Bool.{true}
use mathlib.Core.List.{List}
use mathlib.Core.Logic.{◌⊎◌, inl, inr}
use lib.IntN.{ℤ, pos}
use lib.ListN.{set, replicate, get_or-replicate}
use lib.Signed.{mag}
use Rattle.joblist.specs.Limits.{most_time}
use Rattle.lists.specs.Lists.{◌!◌}
use Rattle.lists.specs.Sets.{Set, Empty}
use Rattle.theta.specs.Theta.{far, end_of, empty, joined, Joins, AllJoin, Places, HoldsSet, Ranged, Sound, Touched, Climbed}
use Rattle.theta.proofs.Ranges.{start_ranged, weights, joined_near, sum_here, end_here, sum_else, end_else, ranged_written, joins_written, zeros}

-- the state of the climb at node i
pub record Climbing (m : ℕ) (sums₀ : List ℕ) (ends₀ : List ℤ) (sums : List ℕ) (ends : List ℤ) (i : ℕ) : Type 0 where
  pub changed : Touched m sums ends i
  pub sums_kept : (v : ℕ) → (1 ≤ v → v < m → ⊥) → sums ! v ≡ sums₀ ! v
  pub ends_kept : (v : ℕ) → (1 ≤ v → v < m → ⊥) → end_of ends v ≡ end_of ends₀ v

pub climb_start : (m : ℕ) (sums : List ℕ) (ends : List ℤ) (i : ℕ) → Touched m sums ends i → Climbing m sums ends sums ends i
climb_start m sums ends i c = record { changed = c; sums_kept = λ v q. refl; ends_kept = λ v q. refl }

module _ (m : ℕ) (sums₀ : List ℕ) (ends₀ : List ℤ) (sums : List ℕ) (ends : List ℤ) (i v : ℕ)
    (c : Climbing m sums₀ ends₀ sums ends i) (more : 1 < i) (is : v ≡ i / 2) where
  abbrev r : Ranged m sums ends
  r = c.changed.ranged

  abbrev s : ℕ
  s = sums ! (2 * v) + sums ! (2 * v + 1)

  abbrev end : ℤ
  end = joined (end_of ends (2 * v)) (end_of ends (2 * v + 1)) (sums ! (2 * v + 1))

  lt : v < 2 * m
  lt = omega (arith, c.changed.below)

  else : (u : ℕ) → (u ≡ v → ⊥) → (set sums v s ! u ≡ sums ! u) × (end_of (set ends v end) u ≡ end_of ends u)
  else u d = (sum_else m sums ends r v s end u d, end_else m sums ends r v s end u d)

  joins_next : (u : ℕ) → 1 ≤ u → u < m → (1 < v → u ≡ v / 2 → ⊥) → Joins (set sums v s) (set ends v end) u
  joins_next u h g away = by (ℕ_discrete u v)
    where
      by : Dec (u ≡ v) → Joins (set sums v s) (set ends v end) u
      by (yes e) =
          let left = else (2 * v) (λ q. omega arith) in
          let right = else (2 * v + 1) (λ q. omega arith) in
          rw e
          (record {
            sum_is = sum_here m sums ends r v s end lt ∙ sym (rw (left.0, right.0));
            end_is = end_here m sums ends r v s end lt ∙ sym (rw (left.1, right.1, right.0));
          })
      by (no d) =
          joins_written m sums ends r v s end u d (λ q. away (omega arith) (omega arith)) (λ q. away (omega arith) (omega arith))
          (c.changed.joins u h g (λ _ q. d (q ∙ sym is)))

  pub climb_step : Climbing m sums₀ ends₀ (set sums v s) (set ends v end) v
  climb_step =
      record {
        changed = record {
          from = omega arith;
          below = lt;
          ranged = ranged_written m sums ends r v s end lt
              (weights (sums ! (2 * v)) (sums ! (2 * v + 1)) v (2 * most_time * m) (r.weight (2 * v)) (r.weight (2 * v + 1)))
              (joined_near (end_of ends (2 * v)) (end_of ends (2 * v + 1)) (sums ! (2 * v)) (sums ! (2 * v + 1)) far (r.near (2 * v)) (r.near (2 * v + 1)));
          joins = joins_next;
        };
        sums_kept = λ u h. (else u (λ q. h (omega arith) (omega (arith, c.changed.below)))).0 ∙ c.sums_kept u h;
        ends_kept = λ u h. (else u (λ q. h (omega arith) (omega (arith, c.changed.below)))).1 ∙ c.ends_kept u h;
      }

pub climb_end : (m : ℕ) (sums₀ : List ℕ) (ends₀ : List ℤ) (sums : List ℕ) (ends : List ℤ) (i : ℕ) → Climbing m sums₀ ends₀ sums ends i → i ≤ 1 → Climbed m sums₀ ends₀ sums ends
climb_end m sums₀ ends₀ sums ends i c h =
    record { ranged = c.changed.ranged; joins = λ v a b. c.changed.joins v a b (λ q e. omega arith); sums_kept = c.sums_kept; ends_kept = c.ends_kept }

-- ---- a leaf is filled

pub put_changed : (m : ℕ) (sums : List ℕ) (ends : List ℤ) (x d : ℕ) (end : ℤ) → x < m → Ranged m sums ends → AllJoin m sums ends → d ≤ most_time → mag end ≤ far
    → Touched m (set sums (m + x) d) (set ends (m + x) end) (m + x)
put_changed m sums ends x d end lt r all h k =
    record {
      from = omega arith;
      below = omega arith;
      ranged = ranged_written m sums ends r (m + x) d end (omega arith)
          (let top : m + x ≤ 2 * m = omega arith in omega (arith, mul-le-mul_left d top, mul-le-mul_right (2 * m) h)) (omega arith);
      joins = λ v a b away. joins_written m sums ends r (m + x) d end v (λ q. omega arith)
          (λ q. away (omega arith) (omega arith)) (λ q. away (omega arith) (omega arith)) (all v a b);
    }

-- the tree then holds one job more
module _ (n m : ℕ) (e p : List ℕ) (σ : ℕ → ℕ) (O O' : Set) (sums : List ℕ) (ends : List ℤ) (sums' : List ℕ) (ends' : List ℤ) (j : ℕ)
    (places : Places n m e σ) (ranged : Ranged m sums ends) (holds : HoldsSet n m e p σ O sums ends) (b : j < n)
    (grown : (i : ℕ) → i < n → O' i ≡ true → (i ≡ j) ⊎ (O i ≡ true)) (more : (i : ℕ) → i < n → O i ≡ true → O' i ≡ true) (own : O' j ≡ true)
    (climbed : Climbed m (set sums (m + σ j) (p ! j)) (set ends (m + σ j) (pos (e ! j + p ! j))) sums' ends') where
  abbrev finish : ℤ
  finish = pos (e ! j + p ! j)

  leaf_in : m + σ j < 2 * m
  leaf_in = omega (arith, places.into j b)

  -- what the leaf holds, and the leaves of other places
  own_leaf : (sums' ! (m + σ j) ≡ p ! j) × (end_of ends' (m + σ j) ≡ finish)
  own_leaf = (
    climbed.sums_kept (m + σ j) (λ q r. omega arith) ∙ sum_here m sums ends ranged (m + σ j) (p ! j) finish leaf_in,
    climbed.ends_kept (m + σ j) (λ q r. omega arith) ∙ end_here m sums ends ranged (m + σ j) (p ! j) finish leaf_in,
  )

  leaf_else : (x : ℕ) → (x ≡ σ j → ⊥) → (sums' ! (m + x) ≡ sums ! (m + x)) × (end_of ends' (m + x) ≡ end_of ends (m + x))
  leaf_else x d = (
    climbed.sums_kept (m + x) (λ q r. omega arith) ∙ sum_else m sums ends ranged (m + σ j) (p ! j) finish (m + x) (λ q. d (omega arith)),
    climbed.ends_kept (m + x) (λ q r. omega arith) ∙ end_else m sums ends ranged (m + σ j) (p ! j) finish (m + x) (λ q. d (omega arith)),
  )

  pub holds_more : HoldsSet n m e p σ O' sums' ends'
  holds_more =
      record {
        joins = climbed.joins;
        full_sum = λ i c t. elim (ℕ_discrete i j) [ yes q ↦ rw q own_leaf.0 | no q ↦ (leaf_else (σ i) (λ r. q (places.apart i j c b r))).0 ∙ holds.full_sum i c (old i c t q) ];
        full_end = λ i c t. elim (ℕ_discrete i j) [ yes q ↦ rw q own_leaf.1 | no q ↦ (leaf_else (σ i) (λ r. q (places.apart i j c b r))).1 ∙ holds.full_end i c (old i c t q) ];
        bare_sum = λ x c f. (leaf_else x (λ q. f j b own (sym q))).0 ∙ holds.bare_sum x c (λ i d t. f i d (more i d t));
        bare_end = λ x c f. (leaf_else x (λ q. f j b own (sym q))).1 ∙ holds.bare_end x c (λ i d t. f i d (more i d t));
      }
    where
      old : (i : ℕ) → i < n → O' i ≡ true → (i ≡ j → ⊥) → O i ≡ true
      old i c t d = elim (grown i c t) [ inl q ↦ absurd (d q) | inr q ↦ q ]

-- ---- the empty tree

bare : (m v : ℕ) → v < 2 * m → end_of (replicate (2 * m) empty) v ≡ empty
bare m v b = get_or-replicate (2 * m) v empty (pos 0) b

pub start_sound : (m : ℕ) → Sound m (replicate (2 * m) 0) (replicate (2 * m) empty)
start_sound m =
    record {
      ranged = start_ranged m;
      joins = λ v a b. record {
        sum_is = rw (zeros (2 * m) v, zeros (2 * m) (2 * v), zeros (2 * m) (2 * v + 1));
        end_is = rw (bare m v (omega arith), bare m (2 * v) (omega arith), bare m (2 * v + 1) (omega arith), zeros (2 * m) (2 * v + 1));
      };
    }

pub start_holds : (m n : ℕ) (e p : List ℕ) (σ : ℕ → ℕ) (O : Set) → Empty n O → HoldsSet n m e p σ O (replicate (2 * m) 0) (replicate (2 * m) empty)
start_holds m n e p σ O none_in =
    record {
      joins = (start_sound m).joins;
      full_sum = λ j b t. absurd (none_in j b t);
      full_end = λ j b t. absurd (none_in j b t);
      bare_sum = λ x b f. zeros (2 * m) (m + x);
      bare_end = λ x b f. bare m (m + x) (omega arith);
    }
