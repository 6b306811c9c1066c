-- What a search is asked for.
use Rattle.std.specs.Prelude.{ℕ}
use Rattle.std.proofs.Math.Option.{Option}
use Rattle.narrowing.specs.Windows.{Side}
use Rattle.timetable.specs.Search.{best}
use Rattle.timetable.specs.Table.{Call, jobs_of}

-- the time at which a rule moves job j's side s next
abbrev pub next_time : Call → ℕ → Side → Option ℕ
next_time c j s = best (jobs_of c) c.win j s
