-- Ragged logs (document 02, Item 10): a word more and a word less than whole records, where every other refusal or answer would be given without it; and
-- logs of no words, which are not ragged. The runs are numbered from 90, and every word of their logs is 9 before and stays; the checker's logs bear the
-- refusal's number, or 40 where they hold.
use Rattle.std.specs.Prelude.{suc, ◌+◌, ◌*◌, ◌-◌, List, [], ◌∷◌, ◌++◌, take, replicate}
use Rattle.narrowing.specs.Windows.{win}
use Rattle.joblist.specs.Limits.{most_jobs, most_time, most_demand}
use Rattle.journal.specs.Journal.{record_words}
use Rattle.timetable.specs.Table.{call, After}
use Rattle.worked.specs.Rows.{RunRow, Job, job, span, noted}
use Rattle.worked.specs.Cases.{crowd}
use Rattle.worked.specs.Runs.{settles, clashes_with, refuses_with, turned_away, keeps}
use Rattle.worked.specs.Logs.{Log, holding, refusing, refused}
use Rattle.worked.specs.Checks.{case_two, case_four}

-- case 6 of the runs on the record, which needs three records; and case 5, which needs none
abbrev pub case_six : List Job
case_six = job 0 3 1 2 ∷ []

abbrev pub case_five : List Job
case_five = job 0 2 2 1 ∷ job 2 4 2 1 ∷ []

abbrev pub ragged_runs : List (RunRow After)
ragged_runs =
    -- a word more than the records needed, which would be a clash, a word less, and two records and five words: the whole records are too few
    keeps 90 1 case_six (suc (3 * record_words)) 7 ∷
    keeps 90 1 case_six (3 * record_words - 1) 7 ∷
    keeps 90 1 case_six (2 * record_words + 5) 7 ∷
    -- no record is needed: one word, and a word less than a record
    keeps 91 1 case_five 1 7 ∷
    keeps 91 1 case_five (record_words - 1) 7 ∷
    keeps 91 1 [] (suc record_words) 7 ∷
    -- the whole records would do, and the list would settle
    keeps 91 5 case_two (suc record_words) 7 ∷
    -- no word at all is not ragged
    settles 92 1 case_five 0 0 (span 0 2 ∷ span 2 4 ∷ []) [] ∷
    refuses_with 92 1 case_six 0 5 [] ∷
    clashes_with 92 1 (job 3 6 4 1 ∷ []) 0 0 0 [] ∷
    -- 7 comes before the clash of a window that is too short
    keeps 93 1 (job 3 6 4 1 ∷ []) (suc record_words) 7 ∷
    keeps 93 1 (job 3 6 4 1 ∷ []) 1 7 ∷
    -- 3, 2 and 1 come before 7
    keeps 94 1 (job 0 (suc most_time) 1 1 ∷ []) (suc record_words) 3 ∷
    keeps 94 (suc most_demand) case_five 1 3 ∷
    keeps 95 1 (replicate (suc most_jobs) (job 0 1 1 1)) 1 2 ∷
    turned_away 96 (call (win (0 ∷ 0 ∷ []) (1 ∷ [])) (1 ∷ []) (1 ∷ []) 1 (9 ∷ [])) 1 ∷
    []

abbrev pub ragged_logs : List Log
ragged_logs =
    -- a good log with a word behind it; with its last word cut off; a log that closes a window; a log of one word, and no record claimed
    refusing 7 5 case_two 1 (noted 0 0 4 2 6 ++ (7 ∷ [])) ∷
    refusing 7 5 case_two 1 (take (record_words - 1) (noted 0 0 4 2 6)) ∷
    refusing 7 1 case_four 1 (noted 0 0 1 1 2 ++ (7 ∷ [])) ∷
    refusing 7 5 case_two 0 (7 ∷ []) ∷
    -- 7 comes before 6, before a window that is too short, and before a bad record
    refusing 7 5 case_two 2 (noted 0 0 4 2 6 ++ (7 ∷ [])) ∷
    refusing 7 5 (job 2 4 3 2 ∷ []) 0 (7 ∷ []) ∷
    refusing 7 5 (job 2 4 3 2 ∷ []) 1 (noted 0 0 2 0 0 ++ (7 ∷ [])) ∷
    refusing 7 5 case_two 1 (noted 3 0 4 2 6 ++ (7 ∷ [])) ∷
    refusing 7 5 crowd 1 (noted 0 0 0 3 14 ++ (7 ∷ [])) ∷
    -- 3, 2 and 1 come before 7
    refusing 3 (suc most_demand) case_two 2 (7 ∷ []) ∷
    refusing 2 1 (replicate (suc most_jobs) (job 0 1 1 1)) 2 (7 ∷ []) ∷
    refused 1 (call (win (0 ∷ 0 ∷ []) (1 ∷ [])) (1 ∷ []) (1 ∷ []) 1 (7 ∷ [])) 2 ∷
    -- no word at all: 6 where a record is claimed, and else the log holds
    refusing 6 5 case_two 1 [] ∷
    holding 1 case_five 0 [] (span 0 2 ∷ span 2 4 ∷ []) ∷
    []
