-- Clash logs and others by hand for the call that names jobs (document 02, Item 14): the capacity, the jobs, the claimed records, the log, and what is due:
-- the number of marked jobs and the set, or a refusal. A row's number is 80 for marks, else the refusal's.
use Rattle.std.specs.Prelude.{ℕ, suc, ◌-◌, ◌≡◌, List, [], ◌∷◌, ◌++◌, replicate}
use Rattle.narrowing.specs.Windows.{win}
use Rattle.answers.specs.Said.{Word, said}
use Rattle.members.specs.Members.{set_words}
use Rattle.joblist.specs.Limits.{most_jobs, most_demand}
use Rattle.timetable.specs.Table.{Call, call}
use Rattle.conflicts.specs.Table.{Blamed, blame, unmarked, conflict_of}
use Rattle.conflicts.specs.Promise.{Exactly}
use Rattle.worked.specs.Rows.{Job, job, with, noted, noted_at}
use Rattle.worked.specs.Checks.{case_two, case_four}

pub record Trace : Type 0 where
  pub number : ℕ
  pub given : Call
  pub count : ℕ
  pub due : Blamed

-- the definition gives what is due
abbrev pub MarksDue : Trace → Type 0
MarksDue x = conflict_of x.given x.count ≡ x.due

-- so does whatever meets the contract's field `exactly`
abbrev pub MarksPinned : Trace → Type 0
MarksPinned x = (a : Blamed) → Exactly x.given x.count a → a ≡ x.due

-- a set whose members are all in word w
abbrev pub set_at : ℕ → ℕ → List ℕ
set_at w x = replicate w 0 ++ (x ∷ replicate (set_words - 1 - w) 0)

abbrev pub marks_row : ℕ → List Job → ℕ → List ℕ → ℕ → List ℕ → Trace
marks_row cap js count log m set = record { number = 80; given = with cap js log; count = count; due = blame (said Word.marked (m ∷ [])) set }

abbrev pub refusal_row : ℕ → Call → ℕ → Trace
refusal_row k c count = record { number = k; given = c; count = count; due = unmarked k }

abbrev pub refusal_on : ℕ → ℕ → List Job → ℕ → List ℕ → Trace
refusal_on k cap js count log = refusal_row k (with cap js log) count

-- jobs 0, 1 and 3 cannot be done together on a supply of 1: 0 keeps 1 from its first time, and 1 and 3 then want the same one; job 2 has room beside them
abbrev pub chain : List Job
chain = job 0 1 1 1 ∷ job 0 2 1 1 ∷ job 1 3 1 1 ∷ job 1 2 1 1 ∷ []

-- by hand: 0 moves 1, 1 moves 2, 1 closes 3. The second record names 1, which is marked, and its moved job is not
abbrev pub chain_log : List ℕ
chain_log = noted 1 0 0 1 1 ++ noted 2 0 1 1 2 ++ noted 3 0 1 1 2

-- jobs 0, 1 and 3 cannot be done together: 1 needs time 1 wherever it starts, 3 has time 2, and 0 wants one of them; job 2 has time 0
abbrev pub aside : List Job
aside = job 1 3 1 1 ∷ job 0 3 2 1 ∷ job 0 1 1 1 ∷ job 2 3 1 1 ∷ []

-- by hand: 1 moves 0, then 2 moves 1, then 3 closes 0. The second record's moved job is marked by the first alone, which the walk reaches after it
abbrev pub aside_log : List ℕ
aside_log = noted 0 0 1 1 2 ++ noted 1 0 0 1 4 ++ noted 0 0 2 1 8

-- the same, but job 2 has time 1 as well, from which 1 keeps it
abbrev pub pushed_aside : List Job
pushed_aside = job 1 3 1 1 ∷ job 0 3 2 1 ∷ job 0 2 1 1 ∷ job 2 3 1 1 ∷ []

-- by hand: 1 moves 2, then as before. Jobs 0, 1 and 3 are marked in the end, but the record that moves 1 holds only behind the one that moves 2
abbrev pub pushed_aside_log : List ℕ
pushed_aside_log = noted 2 1 1 1 2 ++ aside_log

-- two jobs that want one time, with so many between them that ask for nothing
abbrev pub far_apart : ℕ → List Job
far_apart between = job 0 1 1 1 ∷ (replicate between (job 0 9 1 0) ++ (job 0 1 1 1 ∷ []))

abbrev pub traces : List Trace
traces =
    marks_row 1 case_four 1 (noted 0 0 1 1 2) 2 (set_at 0 3) ∷
    marks_row 1 chain 3 chain_log 3 (set_at 0 11) ∷
    -- a record whose moved job no later one marks: its member stays unmarked
    marks_row 1 aside 3 aside_log 3 (set_at 0 11) ∷
    -- the planner's own log: 0 moves 1, and 3 closes it; and with words behind the claimed records
    marks_row 1 chain 2 (noted 1 0 0 1 1 ++ noted 1 0 1 1 8) 3 (set_at 0 11) ∷
    marks_row 1 chain 2 (noted 1 0 0 1 1 ++ noted 1 0 1 1 8 ++ noted 9 9 9 9 9) 3 (set_at 0 11) ∷
    -- a record with no members, of a job that asks for more than there is: it alone
    marks_row 1 (job 0 1 1 2 ∷ job 0 1 1 1 ∷ []) 1 (noted 0 0 0 0 0) 1 (set_at 0 1) ∷
    -- no record: the lowest job whose window is too short, alone, whatever the log holds
    marks_row 5 (job 2 5 3 2 ∷ job 2 4 3 2 ∷ job 9 8 0 0 ∷ []) 0 (noted 0 0 4 2 6) 1 (set_at 0 2) ∷
    -- a moved job or a member above 31, and the last one of all
    marks_row 1 (far_apart 31) 1 (noted_at 1 0 0 0 1 1) 2 (1 ∷ 1 ∷ replicate (set_words - 2) 0) ∷
    marks_row 1 (far_apart 31) 1 (noted 32 0 0 1 1) 2 (1 ∷ 1 ∷ replicate (set_words - 2) 0) ∷
    marks_row 1 (far_apart (most_jobs - 2)) 1 (noted_at (set_words - 1) 0 0 0 1 2147483648) 2 (1 ∷ (replicate (set_words - 2) 0 ++ (2147483648 ∷ []))) ∷
    -- 8: it holds, with records and with none; a record too few is claimed, or one too many; a bad record; a window that is too short, and a record claimed
    refusal_on 8 5 case_two 1 (noted 0 0 4 2 6) ∷
    refusal_on 8 5 case_two 0 [] ∷
    refusal_on 8 1 [] 0 [] ∷
    refusal_on 8 1 chain 2 chain_log ∷
    refusal_on 8 1 chain 3 (noted 1 0 0 1 1 ++ noted 1 0 1 1 8 ++ noted 1 0 1 1 8) ∷
    refusal_on 8 1 chain 3 (noted 1 0 0 1 1 ++ noted 2 0 1 1 2 ++ noted 3 0 1 2 2) ∷
    refusal_on 8 5 (job 2 4 3 2 ∷ []) 1 (noted 0 0 2 0 0) ∷
    -- 6 comes before 8, and before a window that is too short
    refusal_on 6 1 case_four 2 (noted 0 0 1 1 2) ∷
    refusal_on 6 5 case_two 2 (noted 3 0 4 2 6) ∷
    refusal_on 6 5 (job 2 4 3 2 ∷ []) 1 [] ∷
    -- 7 before 6; 3, 2 and 1 before 7
    refusal_on 7 1 case_four 1 (noted 0 0 1 1 2 ++ (7 ∷ [])) ∷
    refusal_on 7 1 case_four 2 (7 ∷ []) ∷
    refusal_on 3 (suc most_demand) case_four 2 (7 ∷ []) ∷
    refusal_on 2 1 (replicate (suc most_jobs) (job 0 1 1 1)) 2 (7 ∷ []) ∷
    refusal_row 1 (call (win (0 ∷ 0 ∷ []) (1 ∷ [])) (1 ∷ []) (1 ∷ []) 1 (7 ∷ [])) 2 ∷
    []
