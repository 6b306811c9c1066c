-- What moves lead to: the windows of a settled end, and the closing move of a clash, or the window that was too short before any.
use Rattle.std.specs.Prelude.{ℕ, ◌+◌, ◌<◌, ◌≡◌, List, [], ◌∷◌, ◌++◌, length}
use Rattle.lists.specs.Lists.{◌!◌}
use Rattle.narrowing.specs.Windows.{Win, Long, LowestTooShort}
use Rattle.narrowing.specs.Search.{Search, Move}
use Rattle.narrowing.specs.Run.{Out, settled, clash, short, reached_by}

-- U's lists are as long as W's
pub record SameLengths (W U : Win) : Type 0 where
  pub early : length U.e ≡ length W.e
  pub late : length U.l ≡ length W.l

-- the moves lead from W to U, one bound of one job at a time
pub record Led (R : Search) (W : Win) (ms : List Move) (U : Win) : Type 0 where
  pub lengths : SameLengths W U
  pub led : U ≡ reached_by R W ms

-- the last move is job j's, and leaves j's window shorter than the job; before it every window was long enough
pub record Closes (R : Search) (W : Win) (ms : List Move) (j : ℕ) : Type 0 where
  pub before : List Move
  pub last : Move
  pub closing : ms ≡ before ++ (last ∷ [])
  pub held : Long R.n R.p (reached_by R W before)
  pub job : last.job ≡ j
  pub closed : (reached_by R W ms).l ! j < (reached_by R W ms).e ! j + R.p ! j

-- a clash of job j: with no move, j is the lowest job whose window is too short; else none is, and the last move closes j's window
abbrev pub Clashed : Search → Win → List Move → ℕ → Type 0
Clashed R W [] j = LowestTooShort R.n R.p W j
Clashed R W (m ∷ ms) j = Long R.n R.p W × Closes R W (m ∷ ms) j

abbrev pub Reached : Search → Win → Out → Type 0
Reached R W (settled U ms) = Led R W ms U
Reached R W (clash j ms) = Clashed R W ms j
Reached R W short = Unit {0}
