-- What the checker promises, of a call, the number of claimed records, and what it finds (the mission's demand 2; document 02, Items 3, 7 and 10).
use Rattle.std.specs.Prelude.{ℕ, ◌<◌, ◌≡◌, List, [], ◌∷◌}
use Rattle.answers.specs.Said.{Word, said}
use Rattle.timetable.specs.Table.{Call, call, jobs_of, asks, After}
use Rattle.timetable.specs.Promise.{Scheduled, Narrows}
pub use Rattle.verdicts.specs.Promise.{taken_by, taken}
use Rattle.verdicts.specs.Promise as promise
use Rattle.checks.specs.Replay.{ReasonedOn, trial, Checked, finds, checked}
use Rattle.checks.specs.Fate.{nth, reached}

-- record i implies its own change from the facts that it names, for any whole starts; the facts hold of all starts in the windows reached; and it names
-- no member that it could do without
abbrev pub Reasoned : Call → ℕ → Type 0
Reasoned c i = ReasonedOn (jobs_of c) (reached c i) (nth c i)

-- each answer exactly when the paper says so, in facts of the log, and the windows that it leaves; refusal k's row
abbrev pub Exactly : Call → ℕ → Checked → Type 0
Exactly c = promise.Exactly (trial (jobs_of c)) (asks c)

abbrev pub RefusedRow : Call → ℕ → ℕ → Type 0
RefusedRow c = promise.RefusedRow (asks c)

abbrev pub Claimed : Call → ℕ → Type 0
Claimed c = promise.Claimed (asks c)

-- a log that narrowing left on these windows, whatever stood in it before, with all its records claimed, is taken to the same end
pub record TakesLogs (c : Call) (count : ℕ) (a : Checked) : Type 0 where
  pub settled : (before : List ℕ) (b : After) → Narrows (call c.win c.p c.r c.cap before) b → b.log ≡ c.log
      → b.says ≡ said Word.settled (count ∷ []) → a ≡ finds (said Word.holds (count ∷ [])) b.win
  pub clash : (before : List ℕ) (b : After) → Narrows (call c.win c.p c.r c.cap before) b → b.log ≡ c.log
      → (j : ℕ) → b.says ≡ said Word.clash (count ∷ j ∷ []) → a ≡ finds (said Word.clash (count ∷ j ∷ [])) c.win

-- the contract of the checker
pub record Checks (c : Call) (count : ℕ) (a : Checked) : Type 0 where
  pub answered : a ≡ checked c count
  pub exactly : Exactly c count a
  -- for every record it takes, whoever wrote it
  pub implied : (i : ℕ) → i < taken a.says → Reasoned c i
  -- every schedule within the submitted windows lies within those left
  pub kept : (s : List ℕ) → Scheduled c c.win s → Scheduled c a.win s
  -- a clash means that there is none
  pub none : a.says.word ≡ Word.clash → (s : List ℕ) → Scheduled c c.win s → ⊥
  -- every log that narrowing writes is taken
  pub takes : TakesLogs c count a
