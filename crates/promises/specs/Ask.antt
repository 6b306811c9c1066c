-- A call of narrowing by any rules: what was submitted, what the defined run looks for, what the rules and a schedule are, and the record of a move. The
-- tests that turn it away before the work (document 01, 'Answer table'; document 02, Item 10). And what is asked of these, so that the answer table keeps its
-- promise.
use Rattle.std.specs.Prelude.{ℕ, ◌≤◌, ◌<◌, ◌≡◌, List, ◌∷◌, map, ◌⊎◌, ◌↔◌, length}
use Rattle.lists.specs.Tests.{unless, failed_or}
use Rattle.narrowing.specs.Windows.{Win, Side, early, LowestTooShort}
use Rattle.narrowing.specs.Rules.{Family, Lawful}
use Rattle.narrowing.specs.Schedules.{Fixed, Exact}
use Rattle.narrowing.specs.Search.{Search, Searches, Move}
use Rattle.narrowing.specs.Rounds.{Chosen}
use Rattle.joblist.specs.Limits.{Column, time_column}
use Rattle.joblist.specs.GoodList.{GoodList, Given, refusal}
use Rattle.journal.specs.Journal.{WholeRecords, Ragged, is_whole, record_at, logged}

pub record Ask : Type 1 where
  -- the submitted windows; the lists beside earliest starts, latest ends and durations; the numbers that stand alone
  pub win : Win
  pub beside : List Column
  pub alone : List Column
  -- the log, and the whole records that it can hold
  pub log : List ℕ
  pub room : ℕ
  -- the number of jobs, their durations, and what the run looks for
  pub search : Search
  pub rules : Family
  -- what starts have to satisfy besides the windows, and what is so where they do not
  pub fits : List ℕ → Type 0
  pub broken : List ℕ → Type 0
  -- the record of a move, and what each record is promised to be
  pub entry : Move → List ℕ
  pub fine : List ℕ → Type 0

-- the number of jobs, their durations, the lists
abbrev pub job_count : Ask → ℕ
job_count A = A.search.n

abbrev pub lasts : Ask → List ℕ
lasts A = A.search.p

abbrev pub columns : Ask → List Column
columns A = time_column A.win.e ∷ time_column A.win.l ∷ time_column (lasts A) ∷ A.beside

-- it has a good list; and whole records fill its log besides, so that no test turns it away
abbrev pub Good : Ask → Type 0
Good A = GoodList (job_count A) (columns A) A.alone

abbrev pub Admitted : Ask → Type 0
Admitted A = Good A × WholeRecords A.log

-- refusal k turns it away: by the first of the tests 1 to 3 that fails, or with 7 a good list whose log is ragged
abbrev pub TurnedAway : Ask → ℕ → Type 0
TurnedAway A k = ((1 ≤ k) × Given k (job_count A) (columns A) A.alone) ⊎ ((k ≡ 7) × Good A × Ragged A.log)

-- the same as tests: the number of the first that fails, and 0 where none does
unfoldable pub refusal_of : Ask → ℕ
unfolding refusal is_whole
refusal_of A = failed_or (refusal (job_count A) (columns A) A.alone) (unless (is_whole A.log) 7 0)

-- j is the lowest job whose window is too short
abbrev pub TooShort : Ask → ℕ → Type 0
TooShort A j = LowestTooShort (job_count A) (lasts A) A.win j

-- what is asked of the rules, the search, the schedules and the records
pub record Grounds (A : Ask) : Type 0 where
  pub lawful : Lawful (job_count A) A.rules
  pub searches : Searches A.search A.rules
  pub exact : Exact (job_count A) (lasts A) A.rules A.fits
  -- where every job is fixed a rule applies exactly if the starts are broken
  pub broken : (s : List ℕ) (W : Win) → Fixed (job_count A) (lasts A) s W
      → ((j : ℕ) × (v : Side) × (b : ℕ) × (j < job_count A) × A.rules W j v b) ↔ A.broken s
  -- of a good list each record of the log is as promised
  pub fine : Good A → (ms : List Move) → Chosen A.search A.rules A.win 0 early ms → length ms ≤ A.room → (i : ℕ) → i < length ms
      → A.fine (record_at (logged (map A.entry ms) A.log) i)
