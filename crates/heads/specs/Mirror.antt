-- Windows mirrored in time, so that one search serves both sides (document 02, Item 2).
use Rattle.std.specs.Prelude.{ℕ, ◌+◌, ◌-◌, ◌<◌, ◌≡◌}
use Rattle.std.proofs.Math.Option.{Option, none, some}
use Rattle.lists.specs.Lists.{◌!◌}
use Rattle.narrowing.specs.Windows.{Win}

-- U is W mirrored at K: its earliest starts are K less W's latest ends, its latest ends K less W's earliest starts
pub record Mirror (n K : ℕ) (W U : Win) : Type 0 where
  pub early : (k : ℕ) → k < n → U.e ! k + W.l ! k ≡ K
  pub late : (k : ℕ) → k < n → U.l ! k + W.e ! k ≡ K

-- M less a number, if there is one
abbrev pub less_from : ℕ → Option ℕ → Option ℕ
less_from M none = none
less_from M (some b) = some (M - b)
