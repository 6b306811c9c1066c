-- Further logs by hand for the checker, each just at a limit or just beside one: times, members of a high number, p = 0 and r = 0, code 25 by one fact alone,
-- code 26 on side 1, what lies behind the claimed records, and where a spare member stands (document 01, 'Answer table'; document 02, Item 7).
use Rattle.std.specs.Prelude.{◌-◌, List, [], ◌∷◌, ◌++◌, replicate}
use Rattle.joblist.specs.Limits.{most_jobs, most_time}
use Rattle.members.specs.Members.{set_words}
use Rattle.worked.specs.Rows.{job, span, noted, noted_at}
use Rattle.worked.specs.Cases.{at_the_end, far_member}
use Rattle.worked.specs.Logs.{Log, holding, clashing, rejecting}
use Rattle.worked.specs.Checks.{case_two, example}

abbrev pub close_checks : List Log
close_checks =
    -- the greatest time that is in range, and the greatest that can be true
    rejecting 25 0 1 (job (most_time - 1) most_time 1 1 ∷ job (most_time - 1) most_time 1 1 ∷ []) 1 (noted 0 0 most_time 1 2) ∷
    clashing 1 (job (most_time - 1) most_time 1 1 ∷ job (most_time - 1) most_time 1 1 ∷ []) 1 (noted 0 1 (most_time - 1) 1 2) 0 ∷
    -- a member above 31, and the last one of all
    holding 5 (far_member 32) 1 (noted_at 1 0 0 0 1 2) (span 1 4 ∷ (replicate 32 (span 0 9) ++ (span 0 1 ∷ []))) ∷
    holding 5 (far_member (most_jobs - 2)) 1 (noted_at (set_words - 1) 0 0 0 1 2147483648) (span 1 4 ∷ (replicate (most_jobs - 2) (span 0 9) ++ (span 0 1 ∷ []))) ∷
    -- a member with p = 0, one with r = 0; a moved job with p = 0
    rejecting 22 0 5 (job 2 10 3 2 ∷ job 4 4 0 2 ∷ job 2 8 4 2 ∷ []) 1 (noted 0 0 4 2 6) ∷
    rejecting 22 0 3 (job 2 10 3 2 ∷ job 2 7 3 0 ∷ job 2 8 4 2 ∷ []) 1 (noted 0 0 4 2 6) ∷
    rejecting 22 0 5 (job 4 4 0 2 ∷ job 2 7 3 2 ∷ job 2 8 4 2 ∷ []) 1 (noted 0 0 4 2 6) ∷
    -- 25 by the moved job alone, on side 1; by a member whose sure part is empty, on side 0, and by one alone on side 1; 26 on side 1
    rejecting 25 0 5 (job 0 4 1 3 ∷ job 0 4 1 1 ∷ job 2 3 1 2 ∷ job 2 3 1 2 ∷ []) 1 (noted 0 1 2 2 12) ∷
    rejecting 25 0 5 (job 2 10 3 2 ∷ job 2 7 3 2 ∷ job 2 8 2 2 ∷ []) 1 (noted 0 0 4 2 6) ∷
    rejecting 25 0 5 (job 0 4 2 3 ∷ job 3 4 1 1 ∷ job 2 3 1 2 ∷ job 3 4 1 2 ∷ []) 1 (noted 0 1 2 2 12) ∷
    rejecting 26 1 5 at_the_end 2 (noted 0 1 3 2 12 ++ noted 0 1 3 2 12) ∷
    -- 25 by the moved job alone, on side 0; by a member that ends too early, and by one that may start too late; a lower limit below zero is none
    rejecting 25 0 1 (job 0 1 1 2 ∷ []) 1 (noted 0 0 1 0 0) ∷
    rejecting 25 0 1 (job 0 9 3 1 ∷ job 0 1 1 1 ∷ []) 1 (noted 0 0 1 1 2) ∷
    rejecting 25 0 2 (job 0 4 2 2 ∷ job 0 4 1 1 ∷ []) 1 (noted 0 0 0 1 2) ∷
    holding 1 (job 0 9 3 1 ∷ job 0 1 1 1 ∷ []) 1 (noted 0 0 0 1 2) (span 1 9 ∷ span 0 1 ∷ []) ∷
    -- what lies behind the claimed records is not looked at; the place counts the good ones
    holding 5 case_two 1 (noted 0 0 4 2 6 ++ noted 9 9 9 9 9) (span 5 10 ∷ span 2 7 ∷ span 2 8 ∷ []) ∷
    rejecting 21 1 2 example 2 (noted 0 0 4 1 2 ++ noted 5 0 0 0 0) ∷
    -- a spare member behind one that is needed, before one, and above 31
    rejecting 27 0 5 (job 0 4 1 3 ∷ job 0 1 1 3 ∷ job 0 1 1 1 ∷ []) 1 (noted 0 0 0 2 6) ∷
    rejecting 27 0 5 (job 0 4 1 3 ∷ job 0 1 1 1 ∷ job 0 1 1 3 ∷ []) 1 (noted 0 0 0 2 6) ∷
    rejecting 27 0 1 (job 0 3 1 2 ∷ (replicate 32 (job 0 9 1 1) ++ (job 0 1 1 1 ∷ []))) 1 (noted_at 1 0 0 0 1 2) ∷
    []
