-- Document 01's 'Runs on the record', cases 1 to 12, case 9 as Item 3 of document 02 has it; with capacity 0 and outside answers (numbers from 20:
-- 000's Example 1.27, 004's 4.1 and 4.2, a tie of latest ends), windows that are too short (from 30), members that can be spared (Item 7, from 50), the
-- ends of sure parts (Item 5, from 60: the last time of one, the first of one, and the new ends after a move of side 0 and of side 1), and the order of
-- work, with a job that draws nothing and members above 31 (from 70).
use Rattle.std.specs.Prelude.{ℕ, suc, ◌*◌, List, [], ◌∷◌, ◌++◌, replicate}
use Rattle.joblist.specs.Limits.{most_time}
use Rattle.journal.specs.Journal.{record_words}
use Rattle.timetable.specs.Table.{After}
use Rattle.worked.specs.Rows.{RunRow, Job, job, span, noted, noted_at}
use Rattle.worked.specs.Runs.{settles, clashes_with, too_short, refuses_with, overloaded, fine}

-- a job with a wide window beside three side by side: at its beginning, with the greatest of them first, and at its end
abbrev pub crowd : List Job
crowd = job 0 4 1 3 ∷ job 0 1 1 1 ∷ job 0 1 1 2 ∷ job 0 1 1 2 ∷ []

abbrev pub greatest_first : List Job
greatest_first = job 0 4 1 3 ∷ job 0 1 1 2 ∷ job 0 1 1 1 ∷ job 0 1 1 1 ∷ []

abbrev pub at_the_end : List Job
at_the_end = job 0 4 1 3 ∷ job 3 4 1 1 ∷ job 3 4 1 2 ∷ job 3 4 1 2 ∷ []

-- a job with a wide window, so many jobs that are sure of no time, and one beside which the first does not fit at its beginning
abbrev pub far_member : ℕ → List Job
far_member n = job 0 4 1 3 ∷ (replicate n (job 0 9 1 1) ++ (job 0 1 1 3 ∷ []))

abbrev pub on_record : List (RunRow After)
on_record =
    settles 1 1 [] 8 0 [] [] ∷
    settles 2 5 (job 2 10 3 2 ∷ job 2 7 3 2 ∷ job 2 8 4 2 ∷ []) 1 1 (span 5 10 ∷ span 2 7 ∷ span 2 8 ∷ []) (noted 0 0 4 2 6) ∷
    settles 3 5 (job 2 10 3 2 ∷ job 5 10 3 2 ∷ job 4 10 4 2 ∷ []) 1 1 (span 2 7 ∷ span 5 10 ∷ span 4 10 ∷ []) (noted 0 1 7 2 6) ∷
    clashes_with 4 1 (job 0 2 2 1 ∷ job 0 2 2 1 ∷ []) 2 1 0 (noted 0 0 1 1 2) ∷
    settles 5 1 (job 0 2 2 1 ∷ job 2 4 2 1 ∷ []) 8 0 (span 0 2 ∷ span 2 4 ∷ []) [] ∷
    clashes_with 6 1 (job 0 3 1 2 ∷ []) 3 3 0 (noted 0 0 0 0 0 ++ (noted 0 0 1 0 0 ++ noted 0 0 2 0 0)) ∷
    refuses_with 6 1 (job 0 3 1 2 ∷ []) 2 5 (replicate (2 * record_words) 0) ∷
    clashes_with 7 1 (job 0 3 2 1 ∷ job 0 3 2 1 ∷ []) 2 1 0 (noted 0 0 1 1 2) ∷
    settles 7 1 (job 0 4 2 1 ∷ job 0 4 2 1 ∷ []) 8 0 (span 0 4 ∷ span 0 4 ∷ []) [] ∷
    settles 8 1 (job 1 1 0 5 ∷ []) 8 0 (span 1 1 ∷ []) [] ∷
    settles 9 1 (job 3 7 4 1 ∷ []) 8 0 (span 3 7 ∷ []) [] ∷
    too_short 9 1 (job 3 6 4 1 ∷ []) 8 0 ∷
    overloaded 10 (job 0 4 2 1 ∷ job 0 4 2 1 ∷ job 0 4 2 1 ∷ []) 0 4 ∷
    fine 10 (job 0 4 2 1 ∷ job 0 4 2 1 ∷ []) ∷
    overloaded 11 (job 0 10 1 1 ∷ job 2 5 2 1 ∷ job 2 5 2 1 ∷ []) 2 5 ∷
    fine 12 (job 8 10 1 1 ∷ job 0 3 1 1 ∷ []) ∷
    clashes_with 20 0 (job 0 1 1 1 ∷ []) 2 1 0 (noted 0 0 0 0 0) ∷
    settles 21 0 (job 0 1 1 0 ∷ []) 8 0 (span 0 1 ∷ []) [] ∷
    settles 22 5 (job 1 7 5 3 ∷ job 3 10 4 2 ∷ job 1 7 3 2 ∷ job 1 12 3 3 ∷ job 1 7 3 2 ∷ []) 3 2
    (span 1 7 ∷ span 3 10 ∷ span 1 7 ∷ span 6 12 ∷ span 1 7 ∷ [])
    (noted 3 0 3 1 1 ++ noted 3 0 5 1 1) ∷
    settles 23 2 (job 3 7 2 1 ∷ job 2 7 3 2 ∷ []) 2 2 (span 5 7 ∷ span 2 5 ∷ []) (noted 0 0 4 1 2 ++ noted 1 1 5 1 1) ∷
    clashes_with 24 2 (job 3 7 2 1 ∷ job 2 7 3 2 ∷ job 5 7 2 2 ∷ []) 3 2 0 (noted 0 0 4 1 2 ++ noted 0 0 6 1 4) ∷
    clashes_with 26 1 (job 10 12 2 1 ∷ job 0 2 2 1 ∷ job 0 2 2 1 ∷ []) 2 1 1 (noted 1 0 1 1 4) ∷
    overloaded 25 (job 1 2 1 1 ∷ job 0 2 2 1 ∷ job 1 2 1 1 ∷ []) 1 2 ∷
    -- the lowest of two, and no record needed; a duration of 0; before any record, where a run would need more than there is room for
    too_short 30 1 (job 3 7 4 1 ∷ job 3 6 4 1 ∷ job 0 1 2 1 ∷ []) 0 1 ∷
    too_short 31 1 (job 5 3 0 0 ∷ []) 1 0 ∷
    too_short 32 1 (job 0 3 1 2 ∷ job 3 6 4 1 ∷ []) 2 1 ∷
    -- refusal 3 comes first
    refuses_with 33 1 (job 3 6 4 1 ∷ job 0 (suc most_time) 1 1 ∷ []) 1 3 (replicate record_words 9) ∷
    -- one job by itself, a above b; a larger set that ends earlier, and later
    overloaded 34 (job 3 6 4 1 ∷ []) 3 6 ∷
    overloaded 35 (job 6 9 2 1 ∷ job 5 3 0 1 ∷ []) 5 3 ∷
    overloaded 36 (job 3 6 4 1 ∷ job 0 4 2 1 ∷ job 0 4 2 1 ∷ job 0 4 2 1 ∷ []) 0 4 ∷
    overloaded 37 (job 7 2 1 1 ∷ job 0 4 2 1 ∷ job 0 4 2 1 ∷ job 0 4 2 1 ∷ []) 7 2 ∷
    -- a = b; a tie of windows that are too short; windows that just hold jobs of duration 0
    overloaded 38 (job 5 5 1 1 ∷ []) 5 5 ∷
    overloaded 39 (job 4 3 0 1 ∷ job 6 3 0 1 ∷ job 5 3 1 1 ∷ []) 6 3 ∷
    fine 40 (job 0 0 0 1 ∷ job 1 1 0 1 ∷ []) ∷
    -- of two members one is needed, whichever comes first; a moved job that exceeds the capacity by itself needs none
    clashes_with 50 1 (job 0 9 1 1 ∷ job 0 1 1 2 ∷ job 0 1 1 1 ∷ []) 2 2 1 (noted 0 0 0 1 4 ++ noted 1 0 0 0 0) ∷
    clashes_with 51 1 (job 0 9 1 1 ∷ job 0 1 1 1 ∷ job 0 1 1 2 ∷ []) 2 2 1 (noted 0 0 0 1 4 ++ noted 1 0 0 1 4) ∷
    -- the first of three is dropped; without either of the other two the demands named only reach the capacity
    settles 52 5 crowd 1 1 (span 1 4 ∷ span 0 1 ∷ span 0 1 ∷ span 0 1 ∷ []) (noted 0 0 0 2 12) ∷
    -- one is dropped after one that is needed; two stay where the first alone would do; and side 1
    settles 53 6 (job 0 4 1 3 ∷ job 0 1 1 3 ∷ job 0 1 1 1 ∷ job 0 1 1 2 ∷ []) 1 1 (span 1 4 ∷ span 0 1 ∷ span 0 1 ∷ span 0 1 ∷ []) (noted 0 0 0 2 10) ∷
    settles 54 4 greatest_first 1 1 (span 1 4 ∷ span 0 1 ∷ span 0 1 ∷ span 0 1 ∷ []) (noted 0 0 0 2 12) ∷
    settles 55 5 at_the_end 1 1 (span 0 3 ∷ span 3 4 ∷ span 3 4 ∷ span 3 4 ∷ []) (noted 0 1 3 2 12) ∷
    clashes_with 60 1 (job 0 3 3 1 ∷ job 0 2 2 1 ∷ []) 2 1 0 (noted 0 0 1 1 2) ∷
    settles 61 1 (job 0 5 2 1 ∷ job 4 5 1 1 ∷ []) 2 1 (span 0 4 ∷ span 4 5 ∷ []) (noted 0 1 4 1 2) ∷
    settles 62 1 (job 0 5 3 1 ∷ job 0 1 1 1 ∷ job 2 9 2 1 ∷ []) 2 2 (span 1 5 ∷ span 0 1 ∷ span 4 9 ∷ []) (noted 0 0 0 1 2 ++ noted 2 0 3 1 1) ∷
    settles 63 1 (job 0 5 3 1 ∷ job 4 5 1 1 ∷ job 0 2 1 1 ∷ []) 3 3 (span 1 4 ∷ span 4 5 ∷ span 0 1 ∷ []) (noted 0 1 4 1 2 ++ (noted 2 1 1 1 1 ++ noted 0 0 0 1 4)) ∷
    -- a job with r = 0 is not moved, however much the others draw; of two jobs on one time the later one alone exceeds the capacity, and moves again where
    -- it stood; side 1 of the first job comes before side 0 of the second, again and again
    clashes_with 70 1 (job 0 5 3 0 ∷ job 2 4 2 2 ∷ []) 3 1 1 (noted 1 0 3 0 0) ∷
    clashes_with 71 1 (job 3 7 2 1 ∷ job 4 6 1 2 ∷ []) 3 2 1 (noted 1 0 4 0 0 ++ noted 1 0 5 0 0) ∷
    clashes_with 72 1 (job 1 4 1 1 ∷ job 3 5 2 2 ∷ []) 3 2 1 (noted 0 1 3 1 2 ++ noted 1 0 4 0 0) ∷
    clashes_with 73 1 (job 2 5 1 1 ∷ job 3 6 3 2 ∷ job 5 8 3 1 ∷ []) 3 3 1 (noted 0 1 4 1 2 ++ (noted 0 1 3 1 2 ++ noted 1 0 5 0 0)) ∷
    -- the work stops at the first record that closes a window
    clashes_with 74 1 (job 0 1 1 2 ∷ job 0 9 1 0 ∷ []) 2 1 0 (noted 0 0 0 0 0) ∷
    -- wrong orders part here: from the first job after a move of side 1, up and down in turn, sides in another order, too few rounds
    settles 75 2 (job 0 2 1 1 ∷ job 0 7 3 1 ∷ job 1 7 3 2 ∷ job 1 2 1 1 ∷ []) 4 4 (span 0 1 ∷ span 0 4 ∷ span 3 7 ∷ span 1 2 ∷ [])
    (noted 2 0 1 1 8 ++ (noted 1 1 4 1 4 ++ (noted 2 0 2 1 2 ++ noted 0 1 1 2 10))) ∷
    clashes_with 76 2 (job 0 5 3 2 ∷ job 0 4 2 1 ∷ job 2 5 1 2 ∷ []) 5 5 2 (noted 1 1 2 1 1 ++ (noted 2 0 2 1 1 ++ (noted 0 0 1 1 2 ++ (noted 2 0 3 1 1 ++ noted 2 0 4 1 1)))) ∷
    settles 77 1 (job 1 5 3 1 ∷ job 0 5 2 1 ∷ []) 3 3 (span 2 5 ∷ span 0 2 ∷ []) (noted 1 1 3 1 1 ++ (noted 1 1 2 1 1 ++ noted 0 0 1 1 2)) ∷
    settles 78 2 (job 2 8 2 2 ∷ job 0 5 3 2 ∷ job 0 2 1 1 ∷ job 2 6 2 2 ∷ []) 8 8 (span 6 8 ∷ span 1 4 ∷ span 0 1 ∷ span 4 6 ∷ [])
    (noted 0 0 2 1 2 ++ (noted 3 0 2 1 2 ++ (noted 0 0 4 1 8 ++ (noted 1 1 4 1 8 ++ (noted 2 1 1 1 2 ++ (noted 1 0 0 1 4 ++ (noted 3 0 3 1 2 ++ noted 0 0 5 1 8))))))) ∷
    -- two members are dropped, one after the other; a member above 31
    clashes_with 79 1 (job 0 2 1 2 ∷ job 0 2 2 1 ∷ job 1 3 2 2 ∷ []) 3 2 0 (noted 0 0 0 0 0 ++ noted 0 0 1 0 0) ∷
    settles 80 5 (far_member 32) 1 1 (span 1 4 ∷ (replicate 32 (span 0 9) ++ (span 0 1 ∷ []))) (noted_at 1 0 0 0 1 2) ∷
    []
