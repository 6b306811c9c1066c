-- Times counted back from the greatest one, and windows told from both ends.
use Rattle.std.specs.Prelude.{ℕ, ◌-◌, List, map}
use Rattle.narrowing.specs.Windows.{Win, win}
use Rattle.joblist.specs.Limits.{most_time}

unfoldable pub counted_back : List ℕ → List ℕ
counted_back xs = map (λ t. most_time - t) xs

-- the windows with these earliest starts, and these latest ends counted back; the other way round they are mirrored in time
abbrev pub told : List ℕ → List ℕ → Win
told starts ends = win starts (counted_back ends)
