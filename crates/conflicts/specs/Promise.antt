-- What the call that names jobs promises (document 02, Item 14), of a call, the number of claimed records, and what it gives.
use Rattle.std.specs.Prelude.{ℕ, ◌≡◌, true, List, [], ◌∷◌, ◌⊎◌, ◌↔◌, length, replicate}
use Rattle.answers.specs.Said.{Word, said}
use Rattle.members.specs.Members.{set_words, has, ones_of, AreWords}
use Rattle.journal.specs.Journal.{records}
use Rattle.timetable.specs.Table.{Call, call, jobs_of, After}
use Rattle.timetable.specs.Promise.{NoneIn, Narrows}
use Rattle.checks.specs.Replay.{rejected}
use Rattle.checks.specs.Fate.{Open, Shut, Fate}
use Rattle.checks.specs.Promise.{Claimed}
use Rattle.checks.specs.Promise as checks
use Rattle.conflicts.specs.Marks.{Traced}
use Rattle.conflicts.specs.Apart.{Together, only_of}
use Rattle.conflicts.specs.Table.{Blamed, marking, conflict_of}

-- the checker takes the claimed records to a clash of job j
abbrev pub ClashOf : Call → ℕ → ℕ → Type 0
ClashOf c count j = Claimed c count × Shut c count j

-- it takes them to no clash: they hold, or one is rejected
abbrev pub NoClash : Call → ℕ → Type 0
NoClash c count = Claimed c count × (Open c count ⊎ ((i : ℕ) × (k : ℕ) × Fate c count (rejected i k)))

-- refusal k's row: the checker's, 1 to 3, 7 or 6; or 8
abbrev pub RefusedRow : Call → ℕ → ℕ → Type 0
RefusedRow c count k = checks.RefusedRow c count k ⊎ ((k ≡ 8) × NoClash c count)

-- each answer exactly when the paper says so, in facts of the log, and the set that it leaves
pub record Exactly (c : Call) (count : ℕ) (a : Blamed) : Type 0 where
  pub refused : (k : ℕ) → (a.says ≡ said Word.refused (k ∷ [])) ↔ RefusedRow c count k
  -- marks for a clash; their number is that of the ones
  pub marked : (m : ℕ) → (a.says ≡ said Word.marked (m ∷ [])) ↔ (((j : ℕ) × ClashOf c count j) × (m ≡ ones_of a.set))
  -- a job is marked exactly if it is traced
  pub traced : (j : ℕ) → ClashOf c count j → (k : ℕ) → (has a.set k ≡ true) ↔ Traced j (records c.log 0 count) k
  -- a refusal leaves no mark
  pub zeros : a.says.word ≡ Word.refused → a.set ≡ replicate set_words 0
  pub words : (length a.set ≡ set_words) × AreWords a.set

-- the marked jobs, with their submitted windows and the capacity, have no schedule by themselves
abbrev pub NotTogether : Call → Blamed → Type 0
NotTogether c a = a.says.word ≡ Word.marked → (s : List ℕ) → Together (jobs_of c) (has a.set) c.win s → ⊥

-- the contract of the call
pub record Blames (c : Call) (count : ℕ) (a : Blamed) : Type 0 where
  pub answered : a ≡ conflict_of c count
  pub exactly : Exactly c count a
  pub blamed : NotTogether c a
  -- and time-tabling shows it: to the list of them alone there are no stable windows
  pub clashes : a.says.word ≡ Word.marked → (log : List ℕ) → NoneIn (only_of (has a.set) c log)
  -- a clash log that narrowing left on these windows, whatever stood in it before, with all its records claimed, is answered by its marks
  pub taken : (before : List ℕ) (b : After) → Narrows (call c.win c.p c.r c.cap before) b → b.log ≡ c.log
      → (j : ℕ) → b.says ≡ said Word.clash (count ∷ j ∷ []) → a ≡ marking c.log count j
