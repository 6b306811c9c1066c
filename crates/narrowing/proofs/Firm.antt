-- The promises leave one answer: Largest and NoCandidate exclude each other, and two Largest are the same windows.
use Prim.Native.Nat.{ℕ}
use mathlib.Core.Path.{◌≡◌}
use mathlib.Core.List.{List}
use lib.ListN.{length}
use Rattle.lists.proofs.Lists.{same_list}
use Rattle.narrowing.specs.Windows.{Win}
use Rattle.narrowing.specs.Rules.{Family, Largest, NoCandidate}
use Rattle.narrowing.proofs.Steps.{largest_unique}

-- never settled and clash
pub not_both : (n : ℕ) (p : List ℕ) (G : Family) (W U : Win) → Largest n p G W U → NoCandidate n p G W → ⊥
not_both n p G W U f h = h U f.one

-- lists of n windows
pub same_windows : (n : ℕ) (p : List ℕ) (G : Family) (W U X : Win) → length U.e ≡ n → length U.l ≡ n → length X.e ≡ n → length X.l ≡ n
    → Largest n p G W U → Largest n p G W X → (U.e ≡ X.e) × (U.l ≡ X.l)
same_windows n p G W U X a b c d f g = (
  same_list n U.e X.e a c (λ k h. (largest_unique n p G W U X f g k h).0),
  same_list n U.l X.l b d (λ k h. (largest_unique n p G W U X f g k h).1),
)
