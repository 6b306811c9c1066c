-- What the log of an answer holds (document 01, 'Order of work' and 'Log records'), as narrowing by any rules has it: a record for each move, the closing
-- one last in a clash; no record where a window is too short (document 02, Item 3). No record names a member that it can do without, and only the
-- members and their number differ from a log that names them all (Item 7).
use Rattle.std.specs.Prelude.{ℕ, ◌≡◌, true, List, length, take}
use Rattle.journal.specs.Journal.{count_word, is_member, record_at}
use Rattle.promises.specs.Reasons as reasons
use Rattle.timetable.specs.Search.{member}
use Rattle.timetable.specs.Table.{Call, asks, After, narrowed_by}

abbrev pub Reasons : Call → After → Type 0
Reasons c a = reasons.Reasons (asks c) a

-- the record x has y's job, side and time, and some of y's members
pub record Shortens (x y : List ℕ) : Type 0 where
  pub told : take count_word x ≡ take count_word y
  pub members : (k : ℕ) → is_member x k ≡ true → is_member y k ≡ true

-- a is b with shorter reasons: the same answer and windows, and in as long a log each record so
pub record Shortened (a b : After) : Type 0 where
  pub says : a.says ≡ b.says
  pub windows : a.win ≡ b.win
  pub size : length a.log ≡ length b.log
  pub records : (i : ℕ) → Shortens (record_at a.log i) (record_at b.log i)

-- what narrowing leaves where every member is named, as before Item 7
abbrev pub fully_named : Call → After
fully_named = narrowed_by member

-- shorter reasons move nothing else
abbrev pub Unmoved : Call → After → Type 0
Unmoved c a = Shortened a (fully_named c)
