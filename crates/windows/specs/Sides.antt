-- The two sides in code, as the paper's.
use Rattle.narrowing.specs.Windows.{Side, early, late}
use Rattle.windows.specs.declared.Side.{Side as CodeSide}
use Rattle.windows.specs.declared.Side.TheVariants.{Start, End}

abbrev pub side_is : CodeSide → Side
side_is Start = early
side_is End = late
