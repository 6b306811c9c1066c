-- A kept function, raised.
use Prim.Native.Nat.{ℕ, ◌≤◌}
use native.Mathlib.Omega.{arith}
use native.Mathlib.Decide.{dec_lt}
use mathlib.Core.Path.{◌≡◌, ◌∙◌}
use mathlib.Core.List.{List}
use Rattle.profile.specs.Raises.{raised, Low}
use Rattle.profile.specs.declared.kept.Outline.{Outline}
use Rattle.profile.specs.Keeps.{Keeps, Grows}
use Rattle.profile.proofs.Raised.{Raises, raised_before, raised_behind, level_low}

-- functions that agree everywhere are kept alike
pub keeps_same : {f : ℕ → ℕ} {ts ld : List ℕ} {k : Outline} → Keeps f ts ld k → (g : ℕ → ℕ) → ((t : ℕ) → f t ≡ g t) → Keeps g ts ld k
keeps_same {f} K g h =
    record { points = K.points; levels = λ i t b u v. K.levels i t b u v ∙ h t; peak = λ t. omega (arith, K.peak t, h t) }

-- no level is above what the function is limited by
pub keeps_low : {f : ℕ → ℕ} {ts ld : List ℕ} {k : Outline} → Keeps f ts ld k → (b : ℕ) → ((t : ℕ) → f t ≤ b) → Low ld k.m b
keeps_low {f} K b h = level_low K.points f K.levels b h

pub grows : (ts ld : List ℕ) (k : Outline) (lo hi r : ℕ) (us ls : List ℕ) (n : Outline) → Raises ts ld k.m lo hi r us ls n.m n.peak
    → k.peak ≤ n.peak → Grows ts ld k lo hi r us ls n
grows ts ld k lo hi r us ls n R a =
    record {
      size = R.size;
      few = R.few;
      keeps = λ f K. record { points = R.points; levels = R.levels f K.levels; peak = λ t. peak f K t };
    }
  where
    peak : (f : ℕ → ℕ) → Keeps f ts ld k → (t : ℕ) → raised f lo hi r t ≤ n.peak
    peak f K t =
        elim (dec_lt t lo) [
          | yes d ↦ omega (arith, raised_before f lo hi r t d, K.peak t)
          | no d ↦
              elim (dec_lt t hi) [
                | yes e ↦ omega (arith, R.most (raised f lo hi r) (R.levels f K.levels) t (omega arith) e)
                | no e ↦ omega (arith, raised_behind f lo hi r t (omega arith), K.peak t)
              ]
        ]
