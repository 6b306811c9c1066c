-- What a replay comes to, in facts: which records are good on the windows reached, which one closes a window, which one is bad; and the window that
-- is too short before any. As for any test of a record.
use Rattle.std.specs.Prelude.{ℕ, List}
use Rattle.narrowing.specs.Windows.{Win}
use Rattle.timetable.specs.Table.{Call, jobs_of, asks}
use Rattle.verdicts.specs.Fate as fate
use Rattle.checks.specs.Replay.{trial, Verdict}

-- record i of the call's log
abbrev pub nth : Call → ℕ → List ℕ
nth c = fate.nth (asks c)

-- the windows reached by the first i records of the log
abbrev pub reached : Call → ℕ → Win
reached c = fate.reached (trial (jobs_of c)) (asks c)

-- record i is good on the windows reached so far
abbrev pub Takes : Call → ℕ → Type 0
Takes c = fate.Takes (trial (jobs_of c)) (asks c)

-- no window is too short, and the first i records are good and close none
abbrev pub Open : Call → ℕ → Type 0
Open c = fate.Open (trial (jobs_of c)) (asks c)

-- job j's window is closed after i records: before any it is the lowest that is too short, else the last of them is the first to close one
abbrev pub Shut : Call → ℕ → ℕ → Type 0
Shut c = fate.Shut (trial (jobs_of c)) (asks c)

-- the verdict on so many records
abbrev pub Fate : Call → ℕ → Verdict → Type 0
Fate c = fate.Fate (trial (jobs_of c)) (asks c)
