-- The tree's numbers stay in range: two children's weights give their parent's, and a node's weight bounds what it holds. One node is
-- written: what stands where afterwards, and that the tree stays in range where the new numbers are. The empty tree is in range.
use Prim.Native.Nat.{ℕ, zero, suc, ◌+◌, ◌*◌, ◌^◌, ◌≤◌, ◌<◌}
use native.Mathlib.Omega.{arith}
use native.Mathlib.Nat.{mul-add, add-mul, mul_left_comm, zero-mul, mul-suc}
use native.Mathlib.Decide.{ℕ_discrete}
use mathlib.Core.Path.{◌≡◌, refl, ◌∙◌}
use mathlib.Core.Bool.{Bool, true, false, cond}
use mathlib.Core.List.{List}
use mir.Syntax.{w64}
use mir.Val.{SFits}
use lib.IntN.{ℤ, pos, ◌+ℤ◌}
use lib.ListN.{set, length-set, replicate, length-replicate}
use lib.Seq.{get_or-set_same, get_or-set_other}
use lib.Signed.{mag, lt_z}
use Rattle.std.specs.Ordering.{ord_max, int_cmp, is_lt}
use Rattle.std.specs.declared.cmp.Ordering.TheVariants.{Less, Equal, Greater}
use Rattle.joblist.specs.Limits.{most_jobs, most_time}
use Rattle.lists.specs.Lists.{◌!◌}
use Rattle.lists.proofs.Signed.{mag_add}
use Rattle.theta.specs.Theta.{far, end_of, empty, joined, Joins, Ranged}

-- a weight bounds what it weighs
weighed : (x v m : ℕ) → 1 ≤ v → x * v ≤ m → x ≤ m
weighed x zero m h q = absurd (omega arith)
weighed x (suc v) m h q = omega (arith, mul-suc x v)

-- two children's weights give their parent's
pub weights : (a b v m : ℕ) → a * (2 * v) ≤ m → b * (2 * v + 1) ≤ m → (a + b) * v ≤ m
weights a b v m h k = omega (arith, mul_left_comm a 2 v, mul-add b (2 * v) 1, mul_left_comm b 2 v, add-mul a b v)

module _ (m : ℕ) (sums : List ℕ) (ends : List ℤ) (r : Ranged m sums ends) where
  pub sum_under : (v : ℕ) → 1 ≤ v → sums ! v ≤ 2 * most_time * m
  sum_under v h = weighed (sums ! v) v (2 * most_time * m) h (r.weight v)

  -- two children's sums together are still in range
  pub child_sums : (v : ℕ) → 1 ≤ v → sums ! (2 * v) + sums ! (2 * v + 1) ≤ 2 * most_time * m
  child_sums v h = weighed _ v (2 * most_time * m) h (weights (sums ! (2 * v)) (sums ! (2 * v + 1)) v (2 * most_time * m) (r.weight (2 * v)) (r.weight (2 * v + 1)))

-- at the size of the code's tree, a completion is far from a 64-bit word's limits
module _ (sums : List ℕ) (ends : List ℤ) (r : Ranged most_jobs sums ends) where
  pub end_under : (v : ℕ) → 1 ≤ v → mag (end_of ends v) ≤ 2 * far
  end_under v h = omega (arith, r.near v, sum_under most_jobs sums ends r v h)

  pub end_fits : (v : ℕ) → 1 ≤ v → SFits w64 (end_of ends v)
  end_fits v h = record { sfits = omega (arith, end_under v h) }

-- with a word's total after it too
pub tail_fits : (end : ℤ) (tail : ℕ) → mag end ≤ 2 * far → tail < 2 ^ 32 → SFits w64 (end +ℤ pos tail)
tail_fits end tail h k = record { sfits = omega (arith, mag_add end tail) }

-- the greater of the two is the joined completion
pub max_joined : (left right : ℤ) (total : ℕ) → ord_max int_cmp right (left +ℤ pos total) ≡ joined left right total
max_joined left right total = go (lt_z (left +ℤ pos total) right) (lt_z right (left +ℤ pos total))
  where
    go : (a b : Bool) → cond (is_lt (cond a Less (cond b Greater Equal))) right (left +ℤ pos total) ≡ cond a right (left +ℤ pos total)
    go true b = refl
    go false true = refl
    go false false = refl

-- the size of a joined completion
pub joined_near : (left right : ℤ) (a b c : ℕ) → mag left ≤ c + a → mag right ≤ c + b → mag (joined left right b) ≤ c + (a + b)
joined_near left right a b c h k = go (lt_z (left +ℤ pos b) right)
  where
    go : (t : Bool) → mag (cond t right (left +ℤ pos b)) ≤ c + (a + b)
    go true = omega arith
    go false = omega (arith, mag_add left b)

-- ---- node v is written

module _ (m : ℕ) (sums : List ℕ) (ends : List ℤ) (r : Ranged m sums ends) (v s : ℕ) (end : ℤ) where
  pub sum_here : v < 2 * m → set sums v s ! v ≡ s
  sum_here lt = get_or-set_same sums v s 0 (omega (arith, r.sums_long))

  pub end_here : v < 2 * m → end_of (set ends v end) v ≡ end
  end_here lt = get_or-set_same ends v end (pos 0) (omega (arith, r.ends_long))

  pub sum_else : (u : ℕ) → (u ≡ v → ⊥) → set sums v s ! u ≡ sums ! u
  sum_else u d = get_or-set_other sums v u s 0 d

  pub end_else : (u : ℕ) → (u ≡ v → ⊥) → end_of (set ends v end) u ≡ end_of ends u
  end_else u d = get_or-set_other ends v u end (pos 0) d

  pub ranged_written : v < 2 * m → s * v ≤ 2 * most_time * m → mag end ≤ far + s → Ranged m (set sums v s) (set ends v end)
  ranged_written lt w f =
      record {
        sums_long = length-set sums v s ∙ r.sums_long;
        ends_long = length-set ends v end ∙ r.ends_long;
        weight = λ u. weight_by u (ℕ_discrete u v);
        near = λ u. near_by u (ℕ_discrete u v);
      }
    where
      weight_by : (u : ℕ) → Dec (u ≡ v) → set sums v s ! u * u ≤ 2 * most_time * m
      weight_by u (yes e) = rw (e, sum_here lt) w
      weight_by u (no d) = rw (sum_else u d) (r.weight u)

      near_by : (u : ℕ) → Dec (u ≡ v) → mag (end_of (set ends v end) u) ≤ far + set sums v s ! u
      near_by u (yes e) = rw (e, sum_here lt, end_here lt) f
      near_by u (no d) = rw (sum_else u d, end_else u d) (r.near u)

  -- a node that is neither v nor v's parent is still what its children say
  pub joins_written : (u : ℕ) → (u ≡ v → ⊥) → (2 * u ≡ v → ⊥) → (2 * u + 1 ≡ v → ⊥) → Joins sums ends u → Joins (set sums v s) (set ends v end) u
  joins_written u d f g old =
      record {
        sum_is = rw (sum_else u d, sum_else (2 * u) f, sum_else (2 * u + 1) g) old.sum_is;
        end_is = rw (end_else u d, end_else (2 * u) f, end_else (2 * u + 1) g, sum_else (2 * u + 1) g) old.end_is;
      }

-- ---- the empty tree

pub zeros : (k v : ℕ) → ◌≡◌ {A = ℕ} (replicate k 0 ! v) 0
zeros zero v = refl
zeros (suc k) zero = refl
zeros (suc k) (suc v) = zeros k v

nones : (k v : ℕ) → mag (end_of (replicate k empty) v) ≤ far
nones zero v = omega arith
nones (suc k) zero = omega arith
nones (suc k) (suc v) = nones k v

pub start_ranged : (m : ℕ) → Ranged m (replicate (2 * m) 0) (replicate (2 * m) empty)
start_ranged m =
    record {
      sums_long = length-replicate (2 * m) 0;
      ends_long = length-replicate (2 * m) empty;
      weight = λ v. rw (zeros (2 * m) v, zero-mul v) (omega arith);
      near = λ v. rw (zeros (2 * m) v) (omega (arith, nones (2 * m) v));
    }
