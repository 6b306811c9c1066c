-- Small texts of the PSPLIB layout, computed from the definition: what they say, or the first refusal that they meet. Each is the first text with one part
-- changed; bytes stand in the line above them.
use Prim.Native.Nat.{ℕ}
use mathlib.Core.Path.{◌≡◌, refl}
use mathlib.Core.List.{List, [], ◌∷◌, ◌++◌}
use Rattle.texts.specs.Readings.{bad, good}
use Rattle.headings.specs.Headings.{jobs_heading, resources_heading, relations_heading, requests_heading, capacities_heading}
use Rattle.psplib.specs.Psplib.{psplib}

-- lines with these bytes behind each
abbrev lined : List ℕ → List (List ℕ) → List ℕ
lined end [] = []
lined end (l ∷ ls) = l ++ (end ++ lined end ls)

abbrev feed : List ℕ
feed = 10 ∷ []

-- `2`
abbrev two : List ℕ
two = 50 ∷ []

-- `n`, for a line of column names, or of hyphens
abbrev names : List ℕ
names = 110 ∷ []

-- `1 1 1 2`
abbrev first_links : List ℕ
first_links = 49 ∷ 32 ∷ 49 ∷ 32 ∷ 49 ∷ 32 ∷ 50 ∷ []

-- `2 1 0`
abbrev second_links : List ℕ
second_links = 50 ∷ 32 ∷ 49 ∷ 32 ∷ 48 ∷ []

-- `1 1 3 1`
abbrev first_needs : List ℕ
first_needs = 49 ∷ 32 ∷ 49 ∷ 32 ∷ 51 ∷ 32 ∷ 49 ∷ []

-- `2 1 4 2`
abbrev second_needs : List ℕ
second_needs = 50 ∷ 32 ∷ 49 ∷ 32 ∷ 52 ∷ 32 ∷ 50 ∷ []

-- `5`
abbrev five : List ℕ
five = 53 ∷ []

-- ` 2` behind the first heading, ` : 1 R` behind the second, which has two spaces in front
abbrev jobs : List ℕ
jobs = jobs_heading ++ 32 ∷ two

abbrev resources : List ℕ
resources = 32 ∷ 32 ∷ (resources_heading ++ 32 ∷ 58 ∷ 32 ∷ 49 ∷ 32 ∷ 82 ∷ [])

-- a text by its lines: the two counts; the relations, the requests and the capacities, each with its heading
abbrev relations : List ℕ → List ℕ → List (List ℕ)
relations l m = relations_heading ∷ names ∷ l ∷ m ∷ []

abbrev requests : List ℕ → List ℕ → List (List ℕ)
requests l m = requests_heading ∷ names ∷ names ∷ l ∷ m ∷ []

abbrev capacities : List ℕ → List (List ℕ)
capacities l = capacities_heading ∷ names ∷ l ∷ []

abbrev text : List (List ℕ) → List (List ℕ) → List (List ℕ) → List (List ℕ) → List ℕ
text counts links needs caps = lined feed (names ∷ (counts ++ (links ++ (needs ++ caps))))

abbrev counts : List (List ℕ)
counts = jobs ∷ resources ∷ []

-- two jobs on one resource, 0 before 1
abbrev pub small : List ℕ
small = text counts (relations first_links second_links) (requests first_needs second_needs) (capacities five)

pub two_jobs : psplib small ≡ good (record { capacities = 5 ∷ []; rows = record { duration = 3; demands = 1 ∷ []; successors = 1 ∷ [] } ∷ record { duration = 4; demands = 2 ∷ []; successors = [] } ∷ [] }) []
unfolding psplib
two_jobs = refl

-- the same with lines ended by a carriage return and a line feed, and `7` behind the last
pub return_and_feed : psplib (lined (13 ∷ 10 ∷ []) (names ∷ (counts ++ (relations first_links second_links ++ (requests first_needs second_needs ++ capacities five)))) ++ 55 ∷ []) ≡ good (record { capacities = 5 ∷ []; rows = record { duration = 3; demands = 1 ∷ []; successors = 1 ∷ [] } ∷ record { duration = 4; demands = 2 ∷ []; successors = [] } ∷ [] }) []
unfolding psplib
return_and_feed = refl

-- no text
pub nothing_at_all : psplib ([]) ≡ bad 35
unfolding psplib
nothing_at_all = refl

-- the last heading is missing
pub heading_missing : psplib (text counts (relations first_links second_links) (requests first_needs second_needs) (names ∷ names ∷ five ∷ [])) ≡ bad 35
unfolding psplib
heading_missing = refl

-- a heading twice, the second time behind the rows
pub heading_twice : psplib (small ++ capacities_heading) ≡ bad 35
unfolding psplib
heading_twice = refl

-- the relations and the requests change places
pub headings_swapped : psplib (text counts (requests first_needs second_needs) (relations first_links second_links) (capacities five)) ≡ bad 35
unfolding psplib
headings_swapped = refl

-- `- nonrenewable : 1`
pub not_renewable : psplib (text (jobs ∷ (45 ∷ 32 ∷ 110 ∷ 111 ∷ 110 ∷ 114 ∷ 101 ∷ 110 ∷ 101 ∷ 119 ∷ 97 ∷ 98 ∷ 108 ∷ 101 ∷ 32 ∷ 58 ∷ 32 ∷ 49 ∷ []) ∷ []) (relations first_links second_links) (requests first_needs second_needs) (capacities five)) ≡ bad 35
unfolding psplib
not_renewable = refl

-- a tab in front of a heading
pub tab_in_front : psplib (text counts ((9 ∷ relations_heading) ∷ names ∷ first_links ∷ second_links ∷ []) (requests first_needs second_needs) (capacities five)) ≡ bad 35
unfolding psplib
tab_in_front = refl

-- ` : 1R` behind the second heading
abbrev pub lettered : List ℕ
lettered = text (jobs ∷ (resources_heading ++ 32 ∷ 58 ∷ 32 ∷ 49 ∷ 82 ∷ []) ∷ []) (relations first_links second_links) (requests first_needs second_needs) (capacities five)

pub letter_in_a_count : psplib lettered ≡ bad 30
unfolding psplib
letter_in_a_count = refl

-- the same with a heading twice: the headings come first
abbrev pub headed_twice : List ℕ
headed_twice = lettered ++ capacities_heading

pub headings_first : psplib headed_twice ≡ bad 35
unfolding psplib
headings_first = refl

-- the job count stands on the next line
pub count_on_the_next_line : psplib (text (jobs_heading ∷ two ∷ resources ∷ []) (relations first_links second_links) (requests first_needs second_needs) (capacities five)) ≡ bad 30
unfolding psplib
count_on_the_next_line = refl

-- no colon behind the second heading: ` 1`
pub no_colon : psplib (text (jobs ∷ (resources_heading ++ 32 ∷ 49 ∷ []) ∷ []) (relations first_links second_links) (requests first_needs second_needs) (capacities five)) ≡ bad 30
unfolding psplib
no_colon = refl

-- more resources than eight: ` : 9`
pub many_resources : psplib (text (jobs ∷ (resources_heading ++ 32 ∷ 58 ∷ 32 ∷ 57 ∷ []) ∷ []) (relations first_links second_links) (requests first_needs second_needs) (capacities five)) ≡ bad 31
unfolding psplib
many_resources = refl

-- one job more than 256: `257`
pub many_jobs : psplib (text ((jobs_heading ++ 50 ∷ 53 ∷ 55 ∷ []) ∷ resources ∷ []) (relations first_links second_links) (requests first_needs second_needs) (capacities five)) ≡ bad 31
unfolding psplib
many_jobs = refl

-- job numbers from 0: `0 1 1 2`
pub job_from_0 : psplib (text counts (relations (48 ∷ 32 ∷ 49 ∷ 32 ∷ 49 ∷ 32 ∷ 50 ∷ []) second_links) (requests first_needs second_needs) (capacities five)) ≡ bad 30
unfolding psplib
job_from_0 = refl

-- a mode count of 2: `1 2 1 2`
pub two_modes : psplib (text counts (relations (49 ∷ 32 ∷ 50 ∷ 32 ∷ 49 ∷ 32 ∷ 50 ∷ []) second_links) (requests first_needs second_needs) (capacities five)) ≡ bad 30
unfolding psplib
two_modes = refl

-- more successors than jobs: `1 1 3 2`
pub more_successors : psplib (text counts (relations (49 ∷ 32 ∷ 49 ∷ 32 ∷ 51 ∷ 32 ∷ 50 ∷ []) second_links) (requests first_needs second_needs) (capacities five)) ≡ bad 31
unfolding psplib
more_successors = refl

-- successor 3 of two jobs: `1 1 1 3`
pub successor_three : psplib (text counts (relations (49 ∷ 32 ∷ 49 ∷ 32 ∷ 49 ∷ 32 ∷ 51 ∷ []) second_links) (requests first_needs second_needs) (capacities five)) ≡ bad 32
unfolding psplib
successor_three = refl

-- mode 2 among the requests: `1 2 3 1`
pub second_mode : psplib (text counts (relations first_links second_links) (requests (49 ∷ 32 ∷ 50 ∷ 32 ∷ 51 ∷ 32 ∷ 49 ∷ []) second_needs) (capacities five)) ≡ bad 30
unfolding psplib
second_mode = refl

-- a duration above its limit: `1 1 1000001 1`
pub long_duration : psplib (text counts (relations first_links second_links) (requests (49 ∷ 32 ∷ 49 ∷ 32 ∷ 49 ∷ 48 ∷ 48 ∷ 48 ∷ 48 ∷ 48 ∷ 49 ∷ 32 ∷ 49 ∷ []) second_needs) (capacities five)) ≡ bad 31
unfolding psplib
long_duration = refl

-- a demand above its limit: `1 1 3 10001`
pub large_demand : psplib (text counts (relations first_links second_links) (requests (49 ∷ 32 ∷ 49 ∷ 32 ∷ 51 ∷ 32 ∷ 49 ∷ 48 ∷ 48 ∷ 48 ∷ 49 ∷ []) second_needs) (capacities five)) ≡ bad 31
unfolding psplib
large_demand = refl

-- without its line of hyphens the table of requests lacks its first row
pub no_hyphens : psplib (text counts (relations first_links second_links) (requests_heading ∷ names ∷ first_needs ∷ second_needs ∷ []) (capacities five)) ≡ bad 30
unfolding psplib
no_hyphens = refl

-- a capacity above its limit: `10001`
pub large_capacity : psplib (text counts (relations first_links second_links) (requests first_needs second_needs) (capacities (49 ∷ 48 ∷ 48 ∷ 48 ∷ 49 ∷ []))) ≡ bad 31
unfolding psplib
large_capacity = refl

-- the relations are met before the requests: `1 1 1 3`, `1 2 3 1`
pub relations_first : psplib (text counts (relations (49 ∷ 32 ∷ 49 ∷ 32 ∷ 49 ∷ 32 ∷ 51 ∷ []) second_links) (requests (49 ∷ 32 ∷ 50 ∷ 32 ∷ 51 ∷ 32 ∷ 49 ∷ []) second_needs) (capacities five)) ≡ bad 32
unfolding psplib
relations_first = refl
