-- What the call that names jobs gives (document 02, Item 14): refusals 1, 2, 3, 7 and 6, in that order and as the checker gives them; then 8 where the log is
-- rejected or ends in no clash; else the marks as a member set, and how many they are. A refusal leaves the set all zeros. Windows and log are only read.
use Rattle.std.specs.Prelude.{ℕ, List, [], ◌∷◌, replicate}
use Rattle.answers.specs.Said.{Word, Said, said}
use Rattle.members.specs.Members.{set_words, setOf, ones_of}
use Rattle.journal.specs.Journal.{records}
use Rattle.timetable.specs.Table.{Call, jobs_of, asks, refusal_of}
use Rattle.verdicts.specs.Replay.{rows_of}
use Rattle.codes.specs.Codes.{code}
use Rattle.checks.specs.Replay.{changed, trial, Verdict, holds, clashes, rejected}
use Rattle.conflicts.specs.Marks.{marked_by}

-- what the call gives: its answer and a member set
pub record Blamed : Type 0 where
  pub says : Said
  pub set : List ℕ

abbrev pub blame : Said → List ℕ → Blamed
blame a set = record { says = a; set = set }

-- refusal k, with no mark
abbrev pub unmarked : ℕ → Blamed
unmarked k = blame (said Word.refused (k ∷ [])) (replicate set_words 0)

-- the marks of the first so many records in a clash of job j, and their number
unfoldable pub marks_of : List ℕ → ℕ → ℕ → List ℕ
unfolding setOf marked_by records
marks_of log count j = setOf set_words (marked_by j (records log 0 count))

unfoldable pub marking : List ℕ → ℕ → ℕ → Blamed
unfolding marks_of ones_of
marking log count j = blame (said Word.marked (ones_of (marks_of log count j) ∷ [])) (marks_of log count j)

-- the row of the checker's verdict; all rows, in the checker's own order
unfoldable pub by_verdict : List ℕ → ℕ → Verdict → Blamed
unfolding marking
by_verdict log count (clashes j) = marking log count j
by_verdict log count (holds U) = unmarked 8
by_verdict log count (rejected i k) = unmarked 8

unfoldable pub rows : Call → ℕ → ℕ → Blamed
unfolding by_verdict rows_of code changed
rows c count k = rows_of unmarked (by_verdict c.log count) (trial (jobs_of c)) (asks c) count k

unfoldable pub conflict_of : Call → ℕ → Blamed
unfolding rows refusal_of
conflict_of c count = rows c count (refusal_of c)
