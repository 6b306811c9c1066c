-- The call that a job list asks.
use Rattle.timetable.specs.Table.{Call}
use Rattle.crowding.specs.Asked.{asked}
use Rattle.searches.specs.declared.list.JobList.{JobList}

-- a log plays no part
abbrev pub asked_of : JobList → Call
asked_of list = asked list.est.now list.lct.now list.dur.now list.dem.now list.cap
