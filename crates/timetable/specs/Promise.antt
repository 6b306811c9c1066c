-- What time-tabling promises: the answer table, demand 2 and demand 3 (the mission's numbers) and its reasons, as narrowing by any rules does
-- (`promises`), and that their being short moves nothing else (document 02, Items 3, 7 and 10), of a call and what it leaves. A schedule is one within the windows
-- that draws at most the capacity at every time; the rules are the two of time-tabling; starts are broken where the supply is overdrawn.
use Rattle.std.specs.Prelude.{ℕ, ◌≡◌, List}
use Rattle.narrowing.specs.Windows.{Win}
use Rattle.promises.specs.Promise as promise
use Rattle.timetable.specs.Table.{Call, asks, Good, After, narrowed}
use Rattle.timetable.specs.Reasons.{Reasons, Unmoved}

-- a schedule of the call's jobs within the windows W
abbrev pub Scheduled : Call → Win → List ℕ → Type 0
Scheduled c = promise.Scheduled (asks c)

-- windows inside the submitted ones, each long enough for its job, to which no time-tabling rule applies; the largest of them; none
abbrev pub StableIn : Call → Win → Type 0
StableIn c = promise.StableIn (asks c)

abbrev pub LargestIn : Call → Win → Type 0
LargestIn c = promise.LargestIn (asks c)

abbrev pub NoneIn : Call → Type 0
NoneIn c = promise.NoneIn (asks c)

-- every job is fixed: e + p = l
abbrev pub AllFixed : Call → Type 0
AllFixed c = promise.AllFixed (asks c)

-- the log has room for so many records; the records that the work needs; it has room for them
abbrev pub HasRoom : Call → ℕ → Type 0
HasRoom c = promise.HasRoom (asks c)

abbrev pub needs : Call → ℕ
needs c = promise.needs (asks c)

abbrev pub Room : Call → Type 0
Room c = promise.Room (asks c)

-- the rows of the answer table, each exactly when it says so; refusal k's
abbrev pub Exactly : Call → After → Type 0
Exactly c = promise.Exactly (asks c)

abbrev pub RefusedRow : Call → ℕ → Type 0
RefusedRow c = promise.RefusedRow (asks c)

-- demand 2; clash of fixed jobs exactly if the supply is overdrawn at some time
abbrev pub Kept : Call → After → Type 0
Kept c = promise.Kept (asks c)

-- demand 3, for a good list
abbrev pub Narrowest : Call → After → Type 0
Narrowest c = promise.Narrowest (asks c)

-- the contract of narrowing
pub record Narrows (c : Call) (a : After) : Type 0 where
  pub answered : a ≡ narrowed c
  pub exactly : Exactly c a
  pub kept : Kept c a
  pub largest : Good c → Narrowest c a
  pub reasons : Reasons c a
  pub unmoved : Unmoved c a
