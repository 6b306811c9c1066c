-- Numbers below n renumbered: place k of the new list is place π k of the old one.
use Rattle.std.specs.Prelude.{ℕ, ◌<◌, ◌≡◌, List}
use Rattle.lists.specs.Lists.{◌!◌}

-- π is a permutation of the numbers below n, and σ its inverse
pub record Permutes (n : ℕ) (π σ : ℕ → ℕ) : Type 0 where
  pub into : (k : ℕ) → k < n → π k < n
  pub onto : (k : ℕ) → k < n → σ k < n
  pub there : (k : ℕ) → k < n → σ (π k) ≡ k
  pub back : (k : ℕ) → k < n → π (σ k) ≡ k

-- ys is xs renumbered
abbrev pub SameList : ℕ → (ℕ → ℕ) → List ℕ → List ℕ → Type 0
SameList n π xs ys = (k : ℕ) → k < n → ys ! k ≡ xs ! π k
