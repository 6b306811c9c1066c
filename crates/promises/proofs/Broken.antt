-- Where starts either fit or are broken, and never both, a rule applies to jobs fixed at them exactly if they are broken: one premise of `Grounds`, from
-- the others.
use Prim.Native.Nat.{ℕ, ◌<◌}
use native.Mathlib.Omega.{arith}
use mathlib.Core.List.{List}
use mathlib.Core.Logic.{◌⊎◌, inl, inr, ◌↔◌}
use Rattle.narrowing.specs.Windows.{Win, Side, Long}
use Rattle.narrowing.specs.Rules.{Family, Stable}
use Rattle.narrowing.specs.Schedules.{Fixed, Exact}
use Rattle.narrowing.specs.Search.{Search, Searches}
use Rattle.narrowing.proofs.Next.{stable_or}

module _ (R : Search) (G : Family) (found : Searches R G) (fits broken : List ℕ → Type 0) (x : Exact R.n R.p G fits)
    (either : (s : List ℕ) → fits s ⊎ broken s) (apart : (s : List ℕ) → broken s → fits s → ⊥) where
  pub broken_exactly : (s : List ℕ) (W : Win) → Fixed R.n R.p s W → ((j : ℕ) × (v : Side) × (b : ℕ) × (j < R.n) × G W j v b) ↔ broken s
  unfolding Stable Long
  broken_exactly s W f = (λ a. there a (either s), λ o. back o (stable_or R G found W long))
    where
      long : Long R.n R.p W
      long k b = omega (arith, f.early k b, f.late k b)

      there : (j : ℕ) × (v : Side) × (b : ℕ) × (j < R.n) × G W j v b → fits s ⊎ broken s → broken s
      there a (inl q) = absurd (x.sound s W f q a.0 a.1 a.2 a.3 a.4)
      there a (inr o) = o

      back : broken s → Stable R.n G W ⊎ ((j : ℕ) × (v : Side) × (b : ℕ) × (j < R.n) × G W j v b) → (j : ℕ) × (v : Side) × (b : ℕ) × (j < R.n) × G W j v b
      back o (inl q) = absurd (apart s o (x.full s W f q))
      back o (inr a) = a
