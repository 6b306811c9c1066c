-- What a search of the definitions finds, as the code returns it.
use Rattle.std.specs.Prelude.{ℕ, Option, Some, None}
use Rattle.std.proofs.Math.Option.{none, some}
use Rattle.std.proofs.Math.Option.{Option as Maybe}

abbrev pub as_option : Maybe ℕ → Option ℕ
as_option none = None
as_option (some x) = Some x
