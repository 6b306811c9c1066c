-- The same jobs listed in another order: job k of the new list is job π k of the old one.
use Rattle.std.specs.Prelude.{ℕ, ◌<◌, ◌≡◌}
use Rattle.lists.specs.Lists.{◌!◌}
use Rattle.narrowing.specs.Windows.{Win, Side}
use Rattle.narrowing.specs.Rules.{Family}

-- U is W with its jobs renumbered
pub record SameWin (n : ℕ) (π : ℕ → ℕ) (W U : Win) : Type 0 where
  pub early : (k : ℕ) → k < n → U.e ! k ≡ W.e ! π k
  pub late : (k : ℕ) → k < n → U.l ! k ≡ W.l ! π k

-- a rule H of the new list on renumbered windows is a rule G of the old one: rules that do not look at the numbers
unfoldable pub Alike : ℕ → (ℕ → ℕ) → Family → Family → Type 0
Alike n π G H = (W U : Win) → SameWin n π W U → (j : ℕ) (s : Side) (b : ℕ) → j < n → H U j s b → G W (π j) s b
