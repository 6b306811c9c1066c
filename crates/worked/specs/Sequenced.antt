-- Runs of the read head's call by hand (document 02, Items 2 and 3), numbered from 100. A job is written as e, l, p. What 001 says of its figure 2.6 (section
-- 2.4.6) is run 172: two jobs come before a third, neither alone moves it, and both together move it to their least e plus total p, which is 10; the windows
-- are of our choice, since the figure's own are not in the text.
use Rattle.std.specs.Prelude.{suc, ◌-◌, List, [], ◌∷◌, ◌++◌, replicate}
use Rattle.narrowing.specs.Windows.{win}
use Rattle.joblist.specs.Limits.{most_jobs, most_time}
use Rattle.worked.specs.Rows.{Job, span}
use Rattle.worked.specs.HeadRuns.{HeadRun, head_job, head_settles, head_rests, head_clashes, head_refuses, head_unequal}

-- three jobs for which there is no time, of which none has to come before another
abbrev pub crammed : List Job
crammed = head_job 1 4 2 ∷ head_job 0 5 2 ∷ head_job 0 5 2 ∷ []

-- fixed jobs that touch, and that overlap
abbrev pub touching : List Job
touching = head_job 0 2 2 ∷ head_job 2 4 2 ∷ []

abbrev pub overlapping : List Job
overlapping = head_job 0 2 2 ∷ head_job 1 3 2 ∷ []

-- three jobs come before the last: the second and third give the greatest bound, 8; the first alone gives 1, the third alone 7, all three 5
abbrev pub three_first : List Job
three_first = head_job 0 2 1 ∷ head_job 4 11 3 ∷ head_job 6 11 1 ∷ head_job 7 20 4 ∷ []

-- the work takes three rounds
abbrev pub three_rounds : List Job
three_rounds = head_job 3 7 2 ∷ head_job 0 10 4 ∷ head_job 1 6 2 ∷ []

abbrev pub head_runs : List HeadRun
head_runs =
    head_rests 100 [] ∷
    head_rests 101 (head_job 3 9 4 ∷ []) ∷
    -- there is no overload test
    head_rests 102 crammed ∷
    head_clashes 103 (head_job 0 3 2 ∷ head_job 0 3 2 ∷ []) 1 0 ∷
    -- fixed jobs; also where the first is none of those that overlap
    head_rests 104 touching ∷
    head_clashes 104 overlapping 1 0 ∷
    head_clashes 104 (head_job 10 12 2 ∷ head_job 0 2 2 ∷ head_job 0 2 2 ∷ []) 1 1 ∷
    -- windows that are too short: the lowest of two; of a duration of 0; where a move would close another's; the last of the most jobs
    head_clashes 105 (head_job 3 7 4 ∷ head_job 3 6 4 ∷ head_job 0 1 2 ∷ []) 0 1 ∷
    head_clashes 106 (head_job 5 3 0 ∷ []) 0 0 ∷
    head_clashes 107 (head_job 0 3 2 ∷ head_job 0 3 2 ∷ head_job 3 6 4 ∷ []) 0 2 ∷
    head_clashes 108 (replicate (most_jobs - 1) (head_job 0 1 1) ++ (head_job 2 2 1 ∷ [])) 0 (most_jobs - 1) ∷
    -- a job of duration 0 is not moved: inside a fixed one; on side 0, on side 1
    head_rests 110 (head_job 0 2 2 ∷ head_job 1 1 0 ∷ []) ∷
    head_rests 111 (head_job 1 9 0 ∷ head_job 0 4 4 ∷ []) ∷
    head_rests 112 (head_job 0 3 0 ∷ head_job 0 4 4 ∷ []) ∷
    -- nor is it counted: as one that comes first, as one that comes last, beside one that is
    head_rests 113 (head_job 0 11 6 ∷ head_job 5 5 0 ∷ []) ∷
    head_rests 114 (head_job 0 11 6 ∷ head_job 6 6 0 ∷ []) ∷
    head_settles 115 (head_job 0 4 2 ∷ head_job 1 1 0 ∷ head_job 0 9 3 ∷ []) 1 (span 0 4 ∷ span 1 1 ∷ span 2 9 ∷ []) ∷
    -- e + p of the second job is l - p of the first, and no more; the mirrored; e is the bound already
    head_rests 120 (head_job 0 5 2 ∷ head_job 0 9 3 ∷ []) ∷
    head_rests 121 (head_job 4 9 2 ∷ head_job 0 9 3 ∷ []) ∷
    head_rests 122 (head_job 0 4 2 ∷ head_job 2 9 3 ∷ []) ∷
    -- a new latest end below zero: where other sets give 0, where no other closes the window; and one of 0
    head_clashes 130 (head_job 0 1 1 ∷ head_job 1 4 2 ∷ head_job 1 3 1 ∷ head_job 0 3 2 ∷ []) 1 0 ∷
    head_clashes 131 (head_job 0 3 1 ∷ head_job 3 8 5 ∷ head_job 3 8 5 ∷ []) 1 0 ∷
    head_clashes 132 (head_job 0 1 1 ∷ head_job 1 2 1 ∷ head_job 1 2 1 ∷ []) 1 0 ∷
    -- the order of work: side 0 again and again; after a move the work goes on where it was, and up again in each round; side 0 before side 1
    head_settles 140 (head_job 4 5 1 ∷ head_job 2 8 2 ∷ head_job 2 5 1 ∷ head_job 2 10 2 ∷ []) 7 (span 4 5 ∷ span 5 8 ∷ span 2 4 ∷ span 7 10 ∷ []) ∷
    head_settles 141 (head_job 0 7 2 ∷ head_job 1 9 1 ∷ head_job 1 6 2 ∷ head_job 3 5 2 ∷ []) 6 (span 5 7 ∷ span 7 9 ∷ span 1 3 ∷ span 3 5 ∷ []) ∷
    head_clashes 142 (head_job 5 12 2 ∷ head_job 4 11 4 ∷ head_job 4 13 4 ∷ head_job 3 8 2 ∷ []) 3 1 ∷
    -- the last time of all; a sum far above it
    head_settles 150 (head_job (most_time - 9) (most_time - 5) 2 ∷ head_job (most_time - 9) most_time 3 ∷ []) 1
    (span (most_time - 9) (most_time - 5) ∷ span (most_time - 7) most_time ∷ []) ∷
    head_clashes 151 (replicate 3 (head_job 0 most_time most_time)) 1 0 ∷
    -- 1, also where 3 or 2 would be given; 2, also where 3 would; 3 for each list, also where a window is too short
    head_unequal 160 (win (0 ∷ 0 ∷ []) (1 ∷ [])) (1 ∷ []) ∷
    head_unequal 160 (win (0 ∷ 0 ∷ []) (1 ∷ 1 ∷ [])) (1 ∷ []) ∷
    head_unequal 160 (win (suc most_time ∷ []) (0 ∷ 0 ∷ [])) (1 ∷ []) ∷
    head_unequal 160 (win (replicate (suc most_jobs) 0) (1 ∷ [])) (1 ∷ []) ∷
    head_refuses 161 (replicate (suc most_jobs) (head_job 0 1 1)) 2 ∷
    head_refuses 161 (replicate (suc most_jobs) (head_job 0 (suc most_time) 1)) 2 ∷
    head_refuses 162 (head_job (suc most_time) 0 1 ∷ []) 3 ∷
    head_refuses 162 (head_job 0 (suc most_time) 1 ∷ []) 3 ∷
    head_refuses 162 (head_job 0 3 (suc most_time) ∷ []) 3 ∷
    []

-- runs in which time-tabling with a capacity of 1 moves nothing
abbrev pub unseen : List HeadRun
unseen =
    -- one job before another, and mirrored; just one more than a tie, and mirrored
    head_settles 170 (head_job 0 4 2 ∷ head_job 0 9 3 ∷ []) 1 (span 0 4 ∷ span 2 9 ∷ []) ∷
    head_settles 170 (head_job 5 9 2 ∷ head_job 0 9 3 ∷ []) 1 (span 5 9 ∷ span 0 7 ∷ []) ∷
    head_settles 171 (head_job 0 5 2 ∷ head_job 1 9 3 ∷ []) 1 (span 0 5 ∷ span 2 9 ∷ []) ∷
    head_settles 171 (head_job 4 9 2 ∷ head_job 0 8 3 ∷ []) 1 (span 4 9 ∷ span 0 7 ∷ []) ∷
    -- 001, and mirrored
    head_settles 172 (head_job 0 12 5 ∷ head_job 1 13 5 ∷ head_job 7 17 3 ∷ []) 1 (span 0 12 ∷ span 1 13 ∷ span 10 17 ∷ []) ∷
    head_settles 172 (head_job 5 17 5 ∷ head_job 4 16 5 ∷ head_job 0 10 3 ∷ []) 1 (span 5 17 ∷ span 4 16 ∷ span 0 7 ∷ []) ∷
    -- neither the first set nor the whole one gives the bound; and mirrored
    head_settles 173 three_first 1 (span 0 2 ∷ span 4 11 ∷ span 6 11 ∷ span 8 20 ∷ []) ∷
    head_settles 173 (head_job 18 20 1 ∷ head_job 9 16 3 ∷ head_job 9 14 1 ∷ head_job 0 13 4 ∷ []) 1 (span 18 20 ∷ span 9 16 ∷ span 9 14 ∷ span 0 12 ∷ []) ∷
    -- the second job alone does
    head_settles 174 (head_job 0 5 1 ∷ head_job 4 9 2 ∷ head_job 5 20 3 ∷ []) 1 (span 0 5 ∷ span 4 9 ∷ span 6 20 ∷ []) ∷
    -- all three do; and mirrored
    head_settles 175 (head_job 0 8 2 ∷ head_job 1 8 2 ∷ head_job 1 8 2 ∷ head_job 5 20 2 ∷ []) 1 (span 0 8 ∷ span 1 8 ∷ span 1 8 ∷ span 6 20 ∷ []) ∷
    head_settles 175 (head_job 12 20 2 ∷ head_job 12 19 2 ∷ head_job 12 19 2 ∷ head_job 0 15 2 ∷ []) 1 (span 12 20 ∷ span 12 19 ∷ span 12 19 ∷ span 0 14 ∷ []) ∷
    -- the order of work: a side again where its own move has brought another job before it; two rounds, and three
    head_settles 176 (head_job 1 3 1 ∷ head_job 1 7 2 ∷ head_job 0 6 3 ∷ []) 6 (span 1 2 ∷ span 5 7 ∷ span 2 5 ∷ []) ∷
    head_settles 177 three_rounds 5 (span 3 6 ∷ span 5 10 ∷ span 1 4 ∷ []) ∷
    -- no schedule, found by the second move of a side, and in the second round
    head_clashes 178 (head_job 1 10 3 ∷ head_job 1 7 3 ∷ head_job 1 10 4 ∷ []) 2 1 ∷
    head_clashes 179 (head_job 0 9 3 ∷ head_job 3 10 3 ∷ head_job 0 8 3 ∷ head_job 4 6 1 ∷ []) 8 0 ∷
    []
