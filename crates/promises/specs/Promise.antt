-- What narrowing by any rules promises: the answer table (document 01; document 02, Items 3 and 10), demand 2 and demand 3 (the mission's numbers) and its
-- reasons, of a call and what it leaves.
-- Demands 2 and 3 and the table's column 'exactly when' speak of schedules and of the rules; the run is named by the number of records that it needs alone, in
-- the premise on the room and as the count of a settled answer and of a clash.
use Rattle.std.specs.Prelude.{ℕ, suc, ◌+◌, ◌≤◌, ◌<◌, ◌≡◌, List, [], ◌∷◌, ◌⊎◌, ◌↔◌}
use Rattle.lists.specs.Lists.{◌!◌}
use Rattle.narrowing.specs.Windows.{Win, slack}
use Rattle.narrowing.specs.Rules.{Candidate, Largest, NoCandidate}
use Rattle.narrowing.specs.Schedules.{Schedule}
use Rattle.narrowing.specs.Run.{needed}
use Rattle.answers.specs.Said.{Word, said}
use Rattle.journal.specs.Journal.{WholeRecords, cleared}
use Rattle.promises.specs.Ask.{Ask, job_count, lasts, Good, Admitted, TurnedAway}
use Rattle.promises.specs.Table.{After, narrowed}
use Rattle.promises.specs.Reasons.{Reasons}

-- a schedule of the call's jobs within the windows W
abbrev pub Scheduled : Ask → Win → List ℕ → Type 0
Scheduled A W s = Schedule (job_count A) (lasts A) A.fits W s

-- windows inside the submitted ones, each long enough for its job, to which no rule applies; the largest of them; none
abbrev pub StableIn : Ask → Win → Type 0
StableIn A U = Candidate (job_count A) (lasts A) A.rules A.win U

abbrev pub LargestIn : Ask → Win → Type 0
LargestIn A U = Largest (job_count A) (lasts A) A.rules A.win U

abbrev pub NoneIn : Ask → Type 0
NoneIn A = NoCandidate (job_count A) (lasts A) A.rules A.win

-- every job is fixed: e + p = l
abbrev pub AllFixed : Ask → Type 0
AllFixed A = (k : ℕ) → k < job_count A → A.win.l ! k ≡ A.win.e ! k + lasts A ! k

-- there is room for n records: a ragged log has none, not for 0 records either
abbrev pub HasRoom : Ask → ℕ → Type 0
HasRoom A n = WholeRecords A.log × (n ≤ A.room)

-- the records that the work needs; there is room for them
unfoldable pub needs : Ask → ℕ
unfolding needed
needs A = needed A.search A.win

abbrev pub Room : Ask → Type 0
Room A = HasRoom A (needs A)

-- refusal k's row: turned away, by 1 to 3 or 7; or 5: the work needs more records than there is room for
abbrev pub RefusedRow : Ask → ℕ → Type 0
RefusedRow A k = TurnedAway A k ⊎ ((k ≡ 5) × Admitted A × (A.room < needs A))

-- the answer table: each row exactly when it says so, and the windows and the log that it leaves; the log of a settled answer and of a clash is `Reasons`'
pub record Exactly (A : Ask) (a : After) : Type 0 where
  pub refused : (k : ℕ) → (a.says ≡ said Word.refused (k ∷ [])) ↔ RefusedRow A k
  -- settled and clash of a good list with room for the work, with the number of records needed: where stable windows exist, and where none do
  pub settled : (n : ℕ) → (a.says ≡ said Word.settled (n ∷ [])) ↔ (Good A × Room A × (n ≡ needs A) × ((U : Win) × StableIn A U))
  pub clash : (n : ℕ) → ((j : ℕ) × (a.says ≡ said Word.clash (n ∷ j ∷ []))) ↔ (Good A × Room A × (n ≡ needs A) × NoneIn A)
  -- the windows are as submitted wherever the answer is not settled
  pub submitted : (a.says.word ≡ Word.settled → ⊥) → a.win ≡ A.win
  -- refusal 5 leaves zeros in the log, every other refusal the log as before
  pub zeros : a.says ≡ said Word.refused (5 ∷ []) → a.log ≡ cleared A.log
  pub before : (k : ℕ) → (k ≡ 5 → ⊥) → a.says ≡ said Word.refused (k ∷ []) → a.log ≡ A.log

-- demand 2
pub record Kept (A : Ask) (a : After) : Type 0 where
  -- every schedule within the submitted windows lies within those left
  pub schedules : (s : List ℕ) → Scheduled A A.win s → Scheduled A a.win s
  -- a clash means that no schedule exists
  pub none : a.says.word ≡ Word.clash → (s : List ℕ) → Scheduled A A.win s → ⊥
  -- where every job of a good list is fixed and there is room for a record, clash exactly if the starts are broken
  pub fixed : Good A → AllFixed A → HasRoom A 1 → (a.says.word ≡ Word.clash) ↔ A.broken A.win.e

-- demand 3, for a good list; where a window is too short there are no stable windows that are long enough
pub record Narrowest (A : Ask) (a : After) : Type 0 where
  -- with room for the work the answer is settled or clash
  pub decided : Room A → (a.says.word ≡ Word.settled) ⊎ (a.says.word ≡ Word.clash)
  -- a settled answer leaves the largest stable windows
  pub settled : a.says.word ≡ Word.settled → LargestIn A a.win
  -- with room for the work a clash is given exactly when there are none
  pub clash : Room A → (a.says.word ≡ Word.clash) ↔ NoneIn A
  -- and settled exactly when such windows exist
  pub exists : Room A → (a.says.word ≡ Word.settled) ↔ ((U : Win) × StableIn A U)
  -- free of the run: where there is room for more records than the sum of l - e - p, settled or clash is said, settled exactly when such windows exist,
  -- clash exactly when none do
  pub free : HasRoom A (suc (slack (lasts A) A.win (job_count A)))
      → ((a.says.word ≡ Word.settled) ⊎ (a.says.word ≡ Word.clash))
      × ((a.says.word ≡ Word.settled) ↔ ((U : Win) × StableIn A U))
      × ((a.says.word ≡ Word.clash) ↔ NoneIn A)

-- the contract of narrowing
pub record Narrows (A : Ask) (a : After) : Type 0 where
  pub answered : a ≡ narrowed A
  pub exactly : Exactly A a
  pub kept : Kept A a
  pub largest : Good A → Narrowest A a
  pub reasons : Reasons A a
