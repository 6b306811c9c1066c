-- Logs by hand for the checker: what holds, what clashes, refusal 6 and each code 20 to 27 (document 01, 'Answer table'; document 02, Items 3 and 7): the
-- capacity, the jobs, the claimed records and the log.
use Rattle.std.specs.Prelude.{suc, List, [], ◌∷◌, ◌++◌}
use Rattle.joblist.specs.Limits.{most_time}
use Rattle.worked.specs.Rows.{Job, job, span, noted}
use Rattle.worked.specs.Cases.{crowd, greatest_first, at_the_end}
use Rattle.worked.specs.Logs.{Log, holding, clashing, refusing, rejecting}

-- cases 2 and 4 of the runs on the record, and Example 4.1 of 004
abbrev pub case_two : List Job
case_two = job 2 10 3 2 ∷ job 2 7 3 2 ∷ job 2 8 4 2 ∷ []

abbrev pub case_four : List Job
case_four = job 0 2 2 1 ∷ job 0 2 2 1 ∷ []

abbrev pub example : List Job
example = job 3 7 2 1 ∷ job 2 7 3 2 ∷ []

abbrev pub checks : List Log
checks =
    holding 5 case_two 0 [] (span 2 10 ∷ span 2 7 ∷ span 2 8 ∷ []) ∷
    holding 5 case_two 1 (noted 0 0 4 2 6) (span 5 10 ∷ span 2 7 ∷ span 2 8 ∷ []) ∷
    -- the second record's facts are true of the windows reached, and not of the submitted ones
    holding 2 example 2 (noted 0 0 4 1 2 ++ noted 1 1 5 1 1) (span 5 7 ∷ span 2 5 ∷ []) ∷
    clashing 1 case_four 1 (noted 0 0 1 1 2) 0 ∷
    clashing 1 case_four 1 (noted 0 1 0 1 2) 0 ∷
    refusing 6 5 case_two 2 (noted 0 0 4 2 6) ∷
    refusing 6 5 case_two 2 (noted 3 0 4 2 6) ∷
    -- a window that is too short: 6 comes before; a clash where no record is claimed, whatever the log holds; else the first is rejected
    refusing 6 5 (job 2 4 3 2 ∷ []) 1 [] ∷
    clashing 5 (job 2 5 3 2 ∷ job 2 4 3 2 ∷ job 9 8 0 0 ∷ []) 0 (noted 0 0 4 2 6) 1 ∷
    rejecting 20 0 5 (job 2 4 3 2 ∷ []) 1 (noted 0 0 2 0 0) ∷
    -- the windows of the moved job and of its members hold them; another job's is too short
    rejecting 20 0 5 (job 2 10 3 2 ∷ job 2 7 3 2 ∷ job 2 8 4 2 ∷ job 9 8 0 0 ∷ []) 1 (noted 0 0 4 2 6) ∷
    rejecting 20 1 1 case_four 2 (noted 0 0 1 1 2 ++ noted 0 0 1 1 2) ∷
    rejecting 21 0 5 case_two 1 (noted 3 0 4 2 6) ∷
    rejecting 21 0 5 case_two 1 (noted 0 2 4 2 6) ∷
    rejecting 21 0 5 case_two 1 (noted 0 0 (suc most_time) 2 6) ∷
    -- a member that is not in the list; one that is the moved job; a moved job of demand 0
    rejecting 22 0 5 case_two 1 (noted 0 0 4 3 14) ∷
    rejecting 22 0 5 case_two 1 (noted 0 0 4 3 7) ∷
    rejecting 22 0 5 (job 2 10 3 0 ∷ job 2 7 3 3 ∷ job 2 8 4 3 ∷ []) 1 (noted 0 0 4 2 6) ∷
    rejecting 23 0 5 case_two 1 (noted 0 0 4 3 6) ∷
    rejecting 24 0 5 case_two 1 (noted 0 0 4 1 2) ∷
    rejecting 25 0 5 case_two 1 (noted 0 0 5 2 6) ∷
    rejecting 26 1 5 case_two 2 (noted 0 0 4 2 6 ++ noted 0 0 4 2 6) ∷
    -- several faults in one record: the first code in their order is given
    rejecting 20 1 1 case_four 2 (noted 0 0 1 1 2 ++ noted 9 9 (suc most_time) 0 0) ∷
    rejecting 21 0 5 case_two 1 (noted 3 0 1 9 1) ∷
    rejecting 22 0 5 case_two 1 (noted 0 0 1 9 1) ∷
    rejecting 23 0 5 case_two 1 (noted 0 0 1 9 2) ∷
    rejecting 24 0 5 case_two 1 (noted 0 0 1 1 2) ∷
    rejecting 25 0 5 case_two 1 (noted 0 0 1 2 6) ∷
    -- two needed members of three, whichever they are; all three, as 01 named them; one alone, which is too few
    holding 5 crowd 1 (noted 0 0 0 2 12) (span 1 4 ∷ span 0 1 ∷ span 0 1 ∷ span 0 1 ∷ []) ∷
    holding 5 crowd 1 (noted 0 0 0 2 6) (span 1 4 ∷ span 0 1 ∷ span 0 1 ∷ span 0 1 ∷ []) ∷
    rejecting 27 0 5 crowd 1 (noted 0 0 0 3 14) ∷
    rejecting 24 0 5 crowd 1 (noted 0 0 0 1 8) ∷
    -- fewer than the writer names; side 1; a moved job that exceeds the capacity by itself
    holding 4 greatest_first 1 (noted 0 0 0 1 2) (span 1 4 ∷ span 0 1 ∷ span 0 1 ∷ span 0 1 ∷ []) ∷
    rejecting 27 0 5 at_the_end 1 (noted 0 1 3 3 14) ∷
    rejecting 27 0 1 (job 0 3 1 2 ∷ job 0 1 1 1 ∷ []) 1 (noted 0 0 0 1 2) ∷
    -- a spare member after a good record; and one beside each earlier fault that it can stand beside
    rejecting 27 1 5 (crowd ++ (job 0 4 1 3 ∷ [])) 2 (noted 0 0 0 2 12 ++ noted 4 0 0 3 14) ∷
    rejecting 20 1 0 (job 0 1 1 1 ∷ job 0 1 1 1 ∷ []) 2 (noted 0 0 0 0 0 ++ noted 1 0 0 1 1) ∷
    rejecting 21 0 5 crowd 1 (noted 0 2 0 3 14) ∷
    rejecting 22 0 5 crowd 1 (noted 0 0 0 4 30) ∷
    rejecting 23 0 5 crowd 1 (noted 0 0 0 2 14) ∷
    rejecting 25 0 5 crowd 1 (noted 0 0 1 3 14) ∷
    rejecting 26 1 5 crowd 2 (noted 0 0 0 2 12 ++ noted 0 0 0 3 14) ∷
    []
