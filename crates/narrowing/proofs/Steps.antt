-- Steps in any order: where they end with nothing that applies they have reached the largest stable windows that hold their jobs, and where
-- a window is closed there are none.
use Prim.Native.Nat.{ℕ, ◌<◌}
use native.Mathlib.Omega.{arith}
use native.Mathlib.Decide.{dec_le}
use mathlib.Core.Path.{◌≡◌}
use mathlib.Core.Bool.{true}
use mathlib.Core.List.{List}
use Rattle.narrowing.specs.Windows.{Win, Side, early, late, Long, Inside, moved, Tighter, Respects, closes}
use Rattle.lists.specs.Lists.{◌!◌}
use Rattle.narrowing.specs.Rules.{Family, Stable, Lawful, Candidate, Largest, NoCandidate, Step, Steps, here, next}
use Rattle.narrowing.proofs.Moves.{inside_refl, inside_trans, move_inside, move_keeps, closed_none}

-- a bound that is not tight enough, or respected
by_side : (U : Win) (j : ℕ) (s : Side) (b : ℕ) → (Tighter U j s b → ⊥) → Respects U j s b
by_side U j early b f = elim (dec_le b (U.e ! j)) [ yes h ↦ h | no h ↦ absurd (f (omega arith)) ]
by_side U j late b f = elim (dec_le (U.l ! j) b) [ yes h ↦ h | no h ↦ absurd (f (omega arith)) ]

module _ (n : ℕ) (p : List ℕ) (G : Family) where
  pub step_refl : (W : Win) → Step n p G W W
  step_refl W = record { inside = inside_refl n W; kept = λ X i. i.inside }

  pub candidate_on : (W U : Win) → Step n p G W U → (X : Win) → Candidate n p G W X → Candidate n p G U X
  candidate_on W U k X i = record { inside = k.kept X i; stable = i.stable; long = i.long }

  pub step_trans : (A B C : Win) → Step n p G A B → Step n p G B C → Step n p G A C
  step_trans A B C f g = record { inside = inside_trans n C B A g.inside f.inside; kept = λ X i. g.kept X (candidate_on A B f X i) }

  -- the two ends
  pub step_largest : (W U : Win) → Step n p G W U → Stable n G U → Long n p U → Largest n p G W U
  step_largest W U k q L = record { one = record { inside = k.inside; stable = q; long = L }; holds = k.kept }

  pub step-none : (W U : Win) → Step n p G W U → NoCandidate n p G U → NoCandidate n p G W
  step-none W U k f X i = f X (candidate_on W U k X i)

  pub closed_none_left : (W : Win) (j : ℕ) → j < n → closes p W j ≡ true → NoCandidate n p G W
  closed_none_left W j b c X i = closed_none n p X W i.inside i.long j b c

  pub largest_step : (W U : Win) → Largest n p G W U → Step n p G W U
  largest_step W U f = record { inside = f.one.inside; kept = f.holds }

  pub largest_unique : (W U X : Win) → Largest n p G W U → Largest n p G W X → (k : ℕ) → k < n → (U.e ! k ≡ X.e ! k) × (U.l ! k ≡ X.l ! k)
  largest_unique W U X f g k b =
      let i = f.holds X g.one in
      let h = g.holds U f.one in
      omega (arith, i.early k b, h.early k b, i.late k b, h.late k b)

  module _ (law : Lawful n G) where
    -- a stable windows inside W respects a move on W
    pub stable_respects : (U W : Win) (j : ℕ) (s : Side) (b : ℕ) → Inside n U W → Stable n G U → j < n → G W j s b → Respects U j s b
    unfolding Stable
    stable_respects U W j s b i S h a = by_side U j s b (λ t. let d = law.again U W j s b i h a t in S j s d.0 h d.1)

    -- one move of a rule
    pub step_move : (W : Win) (j : ℕ) (s : Side) (b : ℕ) → j < n → G W j s b → Step n p G W (moved W j s b)
    step_move W j s b h a =
        record {
          inside = move_inside n W j s b (law.tighter W j s b h a);
          kept = λ X i. move_keeps n X W j s b i.inside (stable_respects X W j s b i.inside i.stable h a);
        }

-- ---- steps one after the other, in any order

pub steps_step : (n : ℕ) (p : List ℕ) (G : Family) → {W U : Win} → Steps n p G W U → Step n p G W U
steps_step n p G {W} here = step_refl n p G W
steps_step n p G {W} {U} (next {U = X} f r) = step_trans n p G W X U f (steps_step n p G r)

-- they rest where nothing applies
pub any_settled : (n : ℕ) (p : List ℕ) (G : Family) → {W U : Win} → Steps n p G W U → Stable n G U → Long n p U → Largest n p G W U
any_settled n p G {W} {U} r q L = step_largest n p G W U (steps_step n p G r) q L

-- they close a window
pub any_clash : (n : ℕ) (p : List ℕ) (G : Family) → {W U : Win} → Steps n p G W U → (j : ℕ) → j < n → closes p U j ≡ true → NoCandidate n p G W
any_clash n p G {W} {U} r j h c = step-none n p G W U (steps_step n p G r) (closed_none_left n p G U j h c)
