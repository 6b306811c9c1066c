-- A chain of tests gives a number exactly where that test's fault is there and the facts of the tests before it hold.
use Prim.Native.Nat.{ℕ}
use mathlib.Core.Path.{◌≡◌, refl}
use mathlib.Core.Bool.{Bool, true, false}
use mathlib.Core.Logic.{◌⊎◌, inl, inr, ◌↔◌}
use Rattle.lists.specs.Tests.{unless}
use Rattle.lists.proofs.Judged.{Judged, fact_passes, fault_fails}

-- one test of the chain, whose rest x gives k exactly where X
pub unless_exactly : {A N X : Type 0} {b : Bool} → Judged A N b → (m x k : ℕ) → (x ≡ k) ↔ X → (unless b m x ≡ k) ↔ ((N × (m ≡ k)) ⊎ (A × X))
unless_exactly {A} {N} {X} {b} j m x k f = (λ h. go b refl h, back)
  where
    go : (c : Bool) → b ≡ c → unless c m x ≡ k → (N × (m ≡ k)) ⊎ (A × X)
    go true e h = inr (j.passed e, f.0 h)
    go false e h = inl (j.failed e, h)

    back : (N × (m ≡ k)) ⊎ (A × X) → unless b m x ≡ k
    back (inl q) = rw (fault_fails j q.0) q.1
    back (inr q) = rw (fact_passes j q.0) (f.1 q.1)
