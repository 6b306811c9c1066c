-- What the writer puts down of a move (document 01, 'Log records'; document 02, Item 7).
use Rattle.std.specs.Prelude.{ℕ, List}
use Rattle.narrowing.specs.Windows.{Side}
use Rattle.narrowing.specs.Search.{move}
use Rattle.members.specs.Members.{set_words, setOf}
use Rattle.timetable.specs.Search.{lean_member, entry}
use Rattle.timetable.specs.Table.{Call, jobs_of}

-- the members that the writer names in a record of job j at time t, on the windows of c
abbrev pub members_of : Call → ℕ → ℕ → List ℕ
members_of c j t = setOf set_words (lean_member (jobs_of c) c.win j t)

-- the record of the move of job j's side s at time t
abbrev pub record_of : Call → ℕ → Side → ℕ → List ℕ
record_of c j s t = entry (jobs_of c) (move c.win j s t)
