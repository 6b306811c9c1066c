-- What the work leaves, by how the defined run ends.
use Rattle.std.specs.Prelude.{ℕ, ◌≡◌, List, map, length}
use Rattle.narrowing.specs.Windows.{Win}
use Rattle.narrowing.specs.Run.{Out, settled, clash, short, run}
use Rattle.answers.specs.declared.Answer.{Answer}
use Rattle.journal.specs.Journal.{room_of, logged}
use Rattle.timetable.specs.Search.{search, entry}
use Rattle.timetable.specs.Table.{Call, jobs_of}

-- what the work leaves of the lists lent to it, where the run ends so: after a clash the windows, and short of room the log too, are not told
abbrev pub EndsAs : Call → Out → Answer → Win → List ℕ → Type 0
EndsAs c (settled U ms) a W log = (a ≡ Answer.Settled (length ms)) × (W ≡ U) × (log ≡ logged (map (entry (jobs_of c)) ms) c.log)
EndsAs c (clash j ms) a W log = (a ≡ Answer.Clash (length ms) j) × (log ≡ logged (map (entry (jobs_of c)) ms) c.log)
EndsAs c short a W log = a ≡ Answer.Refused 5

-- how the defined run of a call ends
unfoldable pub outcome : Call → Out
unfolding run room_of
outcome c = run (search (jobs_of c)) (room_of c.log) c.win

-- the work's answer, windows and log are those of the defined run
abbrev pub Works : Call → Answer → Win → List ℕ → Type 0
Works c a W log = EndsAs c (outcome c) a W log
