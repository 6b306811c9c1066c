-- A move's windows: inside the old ones, and what a bound is after it.
use Prim.Native.Nat.{ℕ, zero, suc, ◌+◌, ◌-◌, ◌≤◌, ◌<◌}
use native.Mathlib.Omega.{arith}
use native.Mathlib.Decide.{ℕ_discrete}
use mathlib.Core.Path.{◌≡◌, refl}
use mathlib.Core.Bool.{true, false}
use mathlib.Core.List.{List}
use lib.ListN.{set, length, length-set}
use lib.Seq.{get_or-set_other, get_or-set_same}
use borrow.Author.Tests.{ltb-true, ltb-false}
use Rattle.narrowing.specs.Windows.{Win, Side, early, late, number, side_of, Long, Inside, moved, Tighter, Respects, closes, slack}
use Rattle.lists.specs.Lists.{◌!◌}
use Rattle.lists.proofs.Lists.{set_any}

-- a side is known by its number
pub side_number : (s : Side) → side_of (number s) ≡ s
side_number early = refl
side_number late = refl

pub side_early : (k : ℕ) → k ≡ 0 → side_of k ≡ early
side_early k h = rw h

pub side_late : (k : ℕ) → (k ≡ 0 → ⊥) → side_of k ≡ late
side_late zero h = absurd (h refl)
side_late (suc k) h = refl

pub inside_refl : (n : ℕ) (W : Win) → Inside n W W
inside_refl n W = record { early = λ k b. omega arith; late = λ k b. omega arith }

pub inside_trans : (n : ℕ) (A B C : Win) → Inside n A B → Inside n B C → Inside n A C
inside_trans n A B C f g = record { early = λ k b. omega (arith, f.early k b, g.early k b); late = λ k b. omega (arith, f.late k b, g.late k b) }

-- a move that tightens goes inward
pub move_inside : (n : ℕ) (W : Win) (j : ℕ) (s : Side) (b : ℕ) → Tighter W j s b → Inside n (moved W j s b) W
move_inside n W j early b a =
    record { early = λ k c. set_any (λ (x : ℕ). W.e ! k ≤ x) W.e j b k (λ q. rw q (omega arith)) (omega arith); late = λ k c. omega arith }
move_inside n W j late b a =
    record { early = λ k c. omega arith; late = λ k c. set_any (λ (x : ℕ). x ≤ W.l ! k) W.l j b k (λ q. rw q (omega arith)) (omega arith) }

-- windows inside W whose bound is tight enough lie inside the moved ones
pub move_keeps : (n : ℕ) (U W : Win) (j : ℕ) (s : Side) (b : ℕ) → Inside n U W → Respects U j s b → Inside n U (moved W j s b)
move_keeps n U W j early b i h =
    record { early = λ k c. set_any (λ (x : ℕ). x ≤ U.e ! k) W.e j b k (λ q. rw q h) (i.early k c); late = i.late }
move_keeps n U W j late b i h =
    record { early = i.early; late = λ k c. set_any (λ (x : ℕ). U.l ! k ≤ x) W.l j b k (λ q. rw q h) (i.late k c) }

-- windows around ones that are long enough are long enough
pub long_around : (n : ℕ) (p : List ℕ) (U W : Win) → Inside n U W → Long n p U → Long n p W
unfolding Long
long_around n p U W i L k b = omega (arith, i.early k b, i.late k b, L k b)

-- a closed window leaves no windows inside that hold their jobs
pub closed_none : (n : ℕ) (p : List ℕ) (U W : Win) → Inside n U W → Long n p U → (j : ℕ) → j < n → closes p W j ≡ true → ⊥
unfolding Long
closed_none n p U W i L j h c = omega (arith, i.early j h, i.late j h, L j h, ltb-true)

pub long_after : (n : ℕ) (p : List ℕ) (W : Win) (j : ℕ) (s : Side) (b : ℕ) → Long n p W → closes p (moved W j s b) j ≡ false → Long n p (moved W j s b)
unfolding Long
long_after n p W j early b L c k h =
    elim (ℕ_discrete k j) [ yes e ↦ rw e (omega (arith, ltb-false)) | no e ↦ rw (get_or-set_other W.e j k b 0 e) (L k h) ]
long_after n p W j late b L c k h =
    elim (ℕ_discrete k j) [ yes e ↦ rw e (omega (arith, ltb-false)) | no e ↦ rw (get_or-set_other W.l j k b 0 e) (L k h) ]

-- ---- slack

-- the lists have all n jobs
pub record Whole (n : ℕ) (W : Win) : Type 0 where
  pub early : n ≤ length W.e
  pub late : n ≤ length W.l

pub whole_after : (n : ℕ) (W : Win) (j : ℕ) (s : Side) (b : ℕ) → Whole n W → Whole n (moved W j s b)
whole_after n W j early b h = record { early = rw length-set h.early; late = h.late }
whole_after n W j late b h = record { early = h.early; late = rw length-set h.late }

part_less : (n : ℕ) (p : List ℕ) (W : Win) (j : ℕ) (s : Side) (b : ℕ) → j < n → Whole n W → Tighter W j s b → closes p (moved W j s b) j ≡ false
    → suc ((moved W j s b).l ! j - ((moved W j s b).e ! j + p ! j)) ≤ W.l ! j - (W.e ! j + p ! j)
part_less n p W j early b d h a c =
    let e : set W.e j b ! j ≡ b = get_or-set_same W.e j b 0 (omega arith) in
    omega (arith, ltb-false)
part_less n p W j late b d h a c =
    let e : set W.l j b ! j ≡ b = get_or-set_same W.l j b 0 (omega arith) in
    omega (arith, ltb-false)

part_same : (p : List ℕ) (W : Win) (j : ℕ) (s : Side) (b k : ℕ) → (k ≡ j → ⊥)
    → (moved W j s b).l ! k - ((moved W j s b).e ! k + p ! k) ≡ W.l ! k - (W.e ! k + p ! k)
part_same p W j early b k d = rw (get_or-set_other W.e j k b 0 d)
part_same p W j late b k d = rw (get_or-set_other W.l j k b 0 d)

slack_same : (p : List ℕ) (W : Win) (j : ℕ) (s : Side) (b m : ℕ) → m ≤ j → slack p (moved W j s b) m ≡ slack p W m
unfolding slack
slack_same p W j s b zero d = refl
slack_same p W j s b (suc m) d = rw (slack_same p W j s b m (omega arith), part_same p W j s b m (omega arith))

pub slack_less : (n : ℕ) (p : List ℕ) (W : Win) (j : ℕ) (s : Side) (b : ℕ) → j < n → Whole n W → Tighter W j s b → closes p (moved W j s b) j ≡ false
    → (m : ℕ) → j < m → suc (slack p (moved W j s b) m) ≤ slack p W m
unfolding slack
slack_less n p W j s b x h a c zero d = omega arith
slack_less n p W j s b x h a c (suc m) d = go (λ q. slack_less n p W j s b x h a c m q)
  where
    go : (j < m → suc (slack p (moved W j s b) m) ≤ slack p W m) → suc (slack p (moved W j s b) (suc m)) ≤ slack p W (suc m)
    go f =
        elim (ℕ_discrete m j) [
          | yes e ↦ rw e (omega (arith, slack_same p W j s b j (omega arith), part_less n p W j s b x h a c))
          | no e ↦ omega (arith, f (omega arith), part_same p W j s b m e)
        ]

-- ---- any step inward: the measure of a loop in any order. The premise says that job k's window has changed

pub slack_in : (n : ℕ) (p : List ℕ) (U W : Win) → Inside n U W → (m : ℕ) → m ≤ n → slack p U m ≤ slack p W m
unfolding slack
slack_in n p U W i zero b = omega arith
slack_in n p U W i (suc m) b = omega (arith, slack_in n p U W i m (omega arith), i.early m b, i.late m b)

pub slack_step : (n : ℕ) (p : List ℕ) (U W : Win) → Inside n U W → Long n p U → (k : ℕ) → (U.e ! k + W.l ! k ≡ W.e ! k + U.l ! k → ⊥)
    → (m : ℕ) → m ≤ n → k < m → slack p U m < slack p W m
unfolding slack Long
slack_step n p U W i L k d zero b c = absurd (omega arith)
slack_step n p U W i L k d (suc m) b c = go (λ q. slack_step n p U W i L k d m (omega arith) q)
  where
    go : (k < m → slack p U m < slack p W m) → slack p U (suc m) < slack p W (suc m)
    go f =
        elim (ℕ_discrete k m) [
          | yes e ↦
              let x : U.e ! m + W.l ! m ≡ W.e ! m + U.l ! m → ⊥ = rw e at d in
              elim (ℕ_discrete (U.e ! m + W.l ! m) (W.e ! m + U.l ! m)) [
                | yes q ↦ absurd (x q)
                | no q ↦ omega (arith, slack_in n p U W i m (omega arith), i.early m b, i.late m b, L m b)
              ]
          | no e ↦ omega (arith, f (omega arith), i.early m b, i.late m b)
        ]
