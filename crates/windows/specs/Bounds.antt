-- The bound of a job's side.
use Rattle.std.specs.Prelude.{ℕ}
use Rattle.lists.specs.Lists.{◌!◌}
use Rattle.narrowing.specs.Windows.{Win, Side, early, late}

-- the earliest start on side 0, the latest end on side 1
abbrev pub bound_at : Win → ℕ → Side → ℕ
bound_at W j early = W.e ! j
bound_at W j late = W.l ! j
