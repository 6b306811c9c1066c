-- What the code's end of a replay stands for, with the windows that it left.
use Rattle.std.specs.Prelude.{ℕ, Option, Some, None, Result, Ok, Err}
use Rattle.narrowing.specs.Windows.{Win}
use Rattle.answers.specs.Said.{code_number}
use Rattle.replay.specs.declared.Bad.{Bad}
use Rattle.checks.specs.Replay.{Verdict, holds, clashes, rejected}

abbrev pub verdict : Result (Option ℕ) Bad → Win → Verdict
verdict (Ok None) W = holds W
verdict (Ok (Some j)) W = clashes j
verdict (Err bad) W = rejected bad.place (code_number bad.code)
