-- Families of rules together: lawful, stable and narrowed as their parts are.
use Prim.Native.Nat.{ℕ, ◌<◌}
use mathlib.Core.List.{List}
use mathlib.Core.Logic.{inl, inr}
use Rattle.narrowing.specs.Windows.{Win, Side, Inside, Tighter}
use Rattle.narrowing.specs.Rules.{Family, Either, Some, Stable, Lawful, Candidate, NoCandidate, Step}

module _ (n : ℕ) (G H : Family) where
  pub stable_left : (W : Win) → Stable n (Either G H) W → Stable n G W
  unfolding Stable
  stable_left W q j s b h a = q j s b h (inl a)

  pub stable_right : (W : Win) → Stable n (Either G H) W → Stable n H W
  unfolding Stable
  stable_right W q j s b h a = q j s b h (inr a)

  pub stable_both : (W : Win) → Stable n G W → Stable n H W → Stable n (Either G H) W
  unfolding Stable
  stable_both W f g j s b h (inl a) = f j s b h a
  stable_both W f g j s b h (inr a) = g j s b h a

  pub lawful_either : Lawful n G → Lawful n H → Lawful n (Either G H)
  lawful_either f g = record { tighter = tight; again = next }
    where
      tight : (W : Win) (j : ℕ) (s : Side) (b : ℕ) → j < n → Either G H W j s b → Tighter W j s b
      tight W j s b h (inl a) = f.tighter W j s b h a
      tight W j s b h (inr a) = g.tighter W j s b h a

      next : (U W : Win) (j : ℕ) (s : Side) (b : ℕ) → Inside n U W → j < n → Either G H W j s b → Tighter U j s b → (c : ℕ) × Either G H U j s c
      next U W j s b i h (inl a) t = let d = f.again U W j s b i h a t in (d.0, inl d.1)
      next U W j s b i h (inr a) t = let d = g.again U W j s b i h a t in (d.0, inr d.1)

module _ (n q : ℕ) (G : ℕ → Family) where
  pub stable_one : (W : Win) → Stable n (Some q G) W → (k : ℕ) → k < q → Stable n (G k) W
  unfolding Stable
  stable_one W f k c j s b h a = f j s b h (k, c, a)

  pub stable_all : (W : Win) → ((k : ℕ) → k < q → Stable n (G k) W) → Stable n (Some q G) W
  unfolding Stable
  stable_all W f j s b h a = f a.0 a.1 j s b h a.2

  pub lawful_some : ((k : ℕ) → k < q → Lawful n (G k)) → Lawful n (Some q G)
  lawful_some f =
      record {
        tighter = λ W j s b h a. (f a.0 a.1).tighter W j s b h a.2;
        again = λ U W j s b i h a t. let d = (f a.0 a.1).again U W j s b i h a.2 t in (d.0, (a.0, a.1, d.1));
      }

-- a step by some of the rules is a step by all of them, and where some leave no candidate all leave none: `part` is stable_left, stable_right, stable_one or a chain of them
module _ (n : ℕ) (p : List ℕ) (G H : Family) (part : (X : Win) → Stable n G X → Stable n H X) where
  candidate_part : (W X : Win) → Candidate n p G W X → Candidate n p H W X
  candidate_part W X i = record { inside = i.inside; stable = part X i.stable; long = i.long }

  pub step_part : (W U : Win) → Step n p H W U → Step n p G W U
  step_part W U k = record { inside = k.inside; kept = λ X i. k.kept X (candidate_part W X i) }

  pub none_part : (W : Win) → NoCandidate n p H W → NoCandidate n p G W
  none_part W f X i = f X (candidate_part W X i)
