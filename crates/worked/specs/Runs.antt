-- How a run of the table is put down: the call that is made, and what is due in every lent word. Of narrowing: capacity, jobs as e, l, p, r, the log's room
-- in records; then the answer, each job's e and l, and the words of the counted records. Every word of a log is 9 before. Of the overload check: the jobs,
-- and the pair or none.
use Rattle.std.specs.Prelude.{ℕ, List, [], ◌∷◌, replicate}
use Rattle.answers.specs.Said.{Word, Said, said}
use Rattle.timetable.specs.Table.{Call, After, leaves, narrowed}
use Rattle.overloads.specs.Promise.{overload_said}
use Rattle.worked.specs.Rows.{RunRow, Job, windows_of, durations_of, with, Span, spans, upon}

abbrev pub lent : ℕ → List Job → ℕ → Call
lent cap js room = with cap js (upon room [])

abbrev pub settles : ℕ → ℕ → List Job → ℕ → ℕ → List Span → List ℕ → RunRow After
settles number cap js room count xs ws =
    record { number = number; done = narrowed (lent cap js room); due = leaves (said Word.settled (count ∷ [])) (spans xs) (upon room ws) }

abbrev pub clashes_with : ℕ → ℕ → List Job → ℕ → ℕ → ℕ → List ℕ → RunRow After
clashes_with number cap js room count j ws =
    record { number = number; done = narrowed (lent cap js room); due = leaves (said Word.clash (count ∷ j ∷ [])) (windows_of js) (upon room ws) }

-- a clash without a record: job j's window is too short
abbrev pub too_short : ℕ → ℕ → List Job → ℕ → ℕ → RunRow After
too_short number cap js room j = clashes_with number cap js room 0 j []

abbrev pub refuses_with : ℕ → ℕ → List Job → ℕ → ℕ → List ℕ → RunRow After
refuses_with number cap js room k log =
    record { number = number; done = narrowed (lent cap js room); due = leaves (said Word.refused (k ∷ [])) (windows_of js) log }

-- refusal k, which leaves every word of the call as it was
abbrev pub turned_away : ℕ → Call → ℕ → RunRow After
turned_away number c k = record { number = number; done = narrowed c; due = leaves (said Word.refused (k ∷ [])) c.win c.log }

-- the same with a log of so many words
abbrev pub keeps : ℕ → ℕ → List Job → ℕ → ℕ → RunRow After
keeps number cap js words k = turned_away number (with cap js (replicate words 9)) k

-- the overload check leaves the windows alone, and looks at no demand
abbrev pub heads : ℕ → List Job → Said → RunRow After
heads number js a = record { number = number; done = leaves (overload_said (windows_of js) (durations_of js)) (windows_of js) []; due = leaves a (windows_of js) [] }

abbrev pub overloaded : ℕ → List Job → ℕ → ℕ → RunRow After
overloaded number js a b = heads number js (said Word.overload (a ∷ b ∷ []))

abbrev pub fine : ℕ → List Job → RunRow After
fine number js = heads number js (said Word.none [])
