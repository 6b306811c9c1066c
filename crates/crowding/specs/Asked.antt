-- The call that a load or a search is asked of, and the load.
use Rattle.std.specs.Prelude.{ℕ, List, []}
use Rattle.narrowing.specs.Windows.{win}
use Rattle.timetable.specs.Time.{load}
use Rattle.timetable.specs.Table.{Call, call, jobs_of}

-- the lists lent and the capacity; a log plays no part
abbrev pub asked : List ℕ → List ℕ → List ℕ → List ℕ → ℕ → Call
asked est lct dur dem cap = call (win est lct) dur dem cap []

-- the demands of the jobs other than j whose sure part holds t
abbrev pub load_of : Call → ℕ → ℕ → ℕ
load_of c j t = load (jobs_of c) c.win j t
