-- A call of time-tabling, and that it is one of narrowing by rules (`promises`), whose answer table (document 01; document 02, Items 3 and 10) says what it
-- leaves.
use Rattle.std.specs.Prelude.{ℕ, List, [], ◌∷◌}
use Rattle.narrowing.specs.Windows.{Win, Long, LowestTooShort}
use Rattle.narrowing.specs.Run.{Out}
use Rattle.joblist.specs.Limits.{jobs, demand_column, four_lists, supply}
use Rattle.joblist.specs.GoodList.{GoodList}
use Rattle.journal.specs.Journal.{room_of}
use Rattle.promises.specs.Ask.{Ask}
use Rattle.promises.specs.Ask as ask
pub use Rattle.promises.specs.Table.{After, leaves}
use Rattle.promises.specs.Table as table
use Rattle.timetable.specs.Time.{Jobs, Applies, Fits, Overdrawn}
use Rattle.timetable.specs.Search.{best, search, Names, lean_member, naming}
use Rattle.timetable.specs.Reason.{LeanRecord}

-- a call of narrowing, or of the checker: the submitted windows, durations, demands, the capacity and the log
pub record Call : Type 0 where
  pub win : Win
  pub p : List ℕ
  pub r : List ℕ
  pub cap : ℕ
  pub log : List ℕ

abbrev pub call : Win → List ℕ → List ℕ → ℕ → List ℕ → Call
call W p r cap log = record { win = W; p = p; r = r; cap = cap; log = log }

-- its jobs
abbrev pub jobs_of : Call → Jobs
jobs_of c = record { n = jobs c.win; p = c.p; r = c.r; cap = c.cap }

-- the call as one of narrowing by rules, with records that name M's
abbrev pub asks_naming : Names → Call → Ask
asks_naming M c =
    let J = jobs_of c in
    record {
      win = c.win;
      beside = demand_column c.r ∷ [];
      alone = supply c.cap;
      log = c.log;
      room = room_of c.log;
      search = search J;
      rules = Applies J;
      fits = Fits J;
      broken = Overdrawn J;
      entry = naming M J;
      fine = LeanRecord J;
    }

-- and with the writer's own
abbrev pub asks : Call → Ask
asks = asks_naming lean_member

-- it has a good list; and whole records fill its log besides, so that no test turns it away
abbrev pub Good : Call → Type 0
Good c = GoodList (jobs c.win) (four_lists c.win c.p c.r) (supply c.cap)

abbrev pub Admitted : Call → Type 0
Admitted c = ask.Admitted (asks c)

-- the number of the first of the tests 1, 2, 3 and 7 that fails, and 0 where none does
unfoldable pub refusal_of : Call → ℕ
unfolding ask.refusal_of
refusal_of c = ask.refusal_of (asks c)

-- every window is long enough for its job; or j is the lowest job whose window is too short
abbrev pub AllLong : Call → Type 0
AllLong c = Long (jobs c.win) c.p c.win

abbrev pub TooShort : Call → ℕ → Type 0
TooShort c j = LowestTooShort (jobs c.win) c.p c.win j

-- a good list whose windows are all long enough, so that no latest start lies below its earliest
pub record Workable (c : Call) : Type 0 where
  pub good : Good c
  pub long : AllLong c

-- the rows of a run's end; those of refusals 1 to 3 and 7, else the run's; what narrowing answers and leaves: by whom its records name
unfoldable pub ended : Names → Call → Out → After
unfolding table.ended naming
ended M c o = table.ended (asks_naming M c) o

unfoldable pub tabled : Names → Call → ℕ → After
unfolding table.tabled ended best room_of
tabled M c k = table.tabled (asks_naming M c) k

unfoldable pub narrowed_by : Names → Call → After
unfolding table.narrowed tabled refusal_of
narrowed_by M c = table.narrowed (asks_naming M c)

-- and with the writer's own
abbrev pub narrowed : Call → After
narrowed = narrowed_by lean_member
