-- Small texts of the Patterson layout, computed from the definition: what they say, or the first refusal that they meet. A text stands in the line
-- above its bytes.
use mathlib.Core.Path.{◌≡◌, refl}
use mathlib.Core.List.{[], ◌∷◌}
use Rattle.texts.specs.Readings.{bad, good}
use Rattle.projects.specs.Patterson.{patterson}

-- two jobs, 0 before 1, with leading zeros and every kind of blank: ` 2\t1\n5\r\n3 1 1 2\n04 2 0`
pub two_jobs : patterson (32 ∷ 50 ∷ 9 ∷ 49 ∷ 10 ∷ 53 ∷ 13 ∷ 10 ∷ 51 ∷ 32 ∷ 49 ∷ 32 ∷ 49 ∷ 32 ∷ 50 ∷ 10 ∷ 48 ∷ 52 ∷ 32 ∷ 50 ∷ 32 ∷ 48 ∷ []) ≡ good (record { capacities = 5 ∷ []; rows = record { duration = 3; demands = 1 ∷ []; successors = 1 ∷ [] } ∷ record { duration = 4; demands = 2 ∷ []; successors = [] } ∷ [] }) []
unfolding patterson
two_jobs = refl

-- no jobs and no resources: `0 0\n`
pub no_jobs : patterson (48 ∷ 32 ∷ 48 ∷ 10 ∷ []) ≡ good (record { capacities = []; rows = [] }) []
unfolding patterson
no_jobs = refl

-- a successor named twice, and a job as its own successor: the text does not refuse them: `2 1 5 3 1 2 2 2 4 2 1 2`
pub twice_named : patterson (50 ∷ 32 ∷ 49 ∷ 32 ∷ 53 ∷ 32 ∷ 51 ∷ 32 ∷ 49 ∷ 32 ∷ 50 ∷ 32 ∷ 50 ∷ 32 ∷ 50 ∷ 32 ∷ 52 ∷ 32 ∷ 50 ∷ 32 ∷ 49 ∷ 32 ∷ 50 ∷ []) ≡ good (record { capacities = 5 ∷ []; rows = record { duration = 3; demands = 1 ∷ []; successors = 1 ∷ 1 ∷ [] } ∷ record { duration = 4; demands = 2 ∷ []; successors = 1 ∷ [] } ∷ [] }) []
unfolding patterson
twice_named = refl

-- duration, demand, capacity and successor count each at its limit: `1 2\n10000 0\n1000000 10000 0 1 1\n`
pub at_limits : patterson (49 ∷ 32 ∷ 50 ∷ 10 ∷ 49 ∷ 48 ∷ 48 ∷ 48 ∷ 48 ∷ 32 ∷ 48 ∷ 10 ∷ 49 ∷ 48 ∷ 48 ∷ 48 ∷ 48 ∷ 48 ∷ 48 ∷ 32 ∷ 49 ∷ 48 ∷ 48 ∷ 48 ∷ 48 ∷ 32 ∷ 48 ∷ 32 ∷ 49 ∷ 32 ∷ 49 ∷ 10 ∷ []) ≡ good (record { capacities = 10000 ∷ 0 ∷ []; rows = record { duration = 1000000; demands = 10000 ∷ 0 ∷ []; successors = 0 ∷ [] } ∷ [] }) []
unfolding patterson
at_limits = refl

-- eight resources: `0 8 1 2 3 4 5 6 7 8`
pub eight_resources : patterson (48 ∷ 32 ∷ 56 ∷ 32 ∷ 49 ∷ 32 ∷ 50 ∷ 32 ∷ 51 ∷ 32 ∷ 52 ∷ 32 ∷ 53 ∷ 32 ∷ 54 ∷ 32 ∷ 55 ∷ 32 ∷ 56 ∷ []) ≡ good (record { capacities = 1 ∷ 2 ∷ 3 ∷ 4 ∷ 5 ∷ 6 ∷ 7 ∷ 8 ∷ []; rows = [] }) []
unfolding patterson
eight_resources = refl

-- nothing at all: ``
pub empty_text : patterson ([]) ≡ bad 30
unfolding patterson
empty_text = refl

-- the text ends before the successors do: `2 1 5 3 1 1`
pub too_short : patterson (50 ∷ 32 ∷ 49 ∷ 32 ∷ 53 ∷ 32 ∷ 51 ∷ 32 ∷ 49 ∷ 32 ∷ 49 ∷ []) ≡ bad 30
unfolding patterson
too_short = refl

-- text is left over: `2 1 5 3 1 1 2 4 2 0 7`
pub left_over : patterson (50 ∷ 32 ∷ 49 ∷ 32 ∷ 53 ∷ 32 ∷ 51 ∷ 32 ∷ 49 ∷ 32 ∷ 49 ∷ 32 ∷ 50 ∷ 32 ∷ 52 ∷ 32 ∷ 50 ∷ 32 ∷ 48 ∷ 32 ∷ 55 ∷ []) ≡ bad 30
unfolding patterson
left_over = refl

-- a letter in a number that would be too large: `99999x`
pub a_letter : patterson (57 ∷ 57 ∷ 57 ∷ 57 ∷ 57 ∷ 120 ∷ []) ≡ bad 30
unfolding patterson
a_letter = refl

-- a sign: `+2`
pub a_sign : patterson (43 ∷ 50 ∷ []) ≡ bad 30
unfolding patterson
a_sign = refl

-- a form feed is no blank: `2\f1`
pub form_feed : patterson (50 ∷ 12 ∷ 49 ∷ []) ≡ bad 30
unfolding patterson
form_feed = refl

-- 256 jobs are taken, and the text ends there: `256 1`
pub most_jobs_lem : patterson (50 ∷ 53 ∷ 54 ∷ 32 ∷ 49 ∷ []) ≡ bad 30
unfolding patterson
most_jobs_lem = refl

-- one job more is not: `257 1`
pub one_job_more : patterson (50 ∷ 53 ∷ 55 ∷ 32 ∷ 49 ∷ []) ≡ bad 31
unfolding patterson
one_job_more = refl

-- nine resources: `2 9`
pub nine_resources : patterson (50 ∷ 32 ∷ 57 ∷ []) ≡ bad 31
unfolding patterson
nine_resources = refl

-- a capacity above its limit: `2 1 10001`
pub large_capacity : patterson (50 ∷ 32 ∷ 49 ∷ 32 ∷ 49 ∷ 48 ∷ 48 ∷ 48 ∷ 49 ∷ []) ≡ bad 31
unfolding patterson
large_capacity = refl

-- a duration above its limit, and a letter behind it: `2 1 5 1000001 x`
pub long_duration : patterson (50 ∷ 32 ∷ 49 ∷ 32 ∷ 53 ∷ 32 ∷ 49 ∷ 48 ∷ 48 ∷ 48 ∷ 48 ∷ 48 ∷ 49 ∷ 32 ∷ 120 ∷ []) ≡ bad 31
unfolding patterson
long_duration = refl

-- a letter, and a demand above its limit behind it: `2 1 5 x 10001`
pub letter_first : patterson (50 ∷ 32 ∷ 49 ∷ 32 ∷ 53 ∷ 32 ∷ 120 ∷ 32 ∷ 49 ∷ 48 ∷ 48 ∷ 48 ∷ 49 ∷ []) ≡ bad 30
unfolding patterson
letter_first = refl

-- a demand above its limit: `2 1 5 3 10001 0`
pub large_demand : patterson (50 ∷ 32 ∷ 49 ∷ 32 ∷ 53 ∷ 32 ∷ 51 ∷ 32 ∷ 49 ∷ 48 ∷ 48 ∷ 48 ∷ 49 ∷ 32 ∷ 48 ∷ []) ≡ bad 31
unfolding patterson
large_demand = refl

-- the same of the second resource: `2 2 5 9 3 1 10001 0`
pub other_demand : patterson (50 ∷ 32 ∷ 50 ∷ 32 ∷ 53 ∷ 32 ∷ 57 ∷ 32 ∷ 51 ∷ 32 ∷ 49 ∷ 32 ∷ 49 ∷ 48 ∷ 48 ∷ 48 ∷ 49 ∷ 32 ∷ 48 ∷ []) ≡ bad 31
unfolding patterson
other_demand = refl

-- the capacity of the second resource is above its limit: `2 2 5 99999`
pub other_capacity : patterson (50 ∷ 32 ∷ 50 ∷ 32 ∷ 53 ∷ 32 ∷ 57 ∷ 57 ∷ 57 ∷ 57 ∷ 57 ∷ []) ≡ bad 31
unfolding patterson
other_capacity = refl

-- 2 to the power 32 and 2 is not 2: `4294967298 1 5`
pub two_to_32 : patterson (52 ∷ 50 ∷ 57 ∷ 52 ∷ 57 ∷ 54 ∷ 55 ∷ 50 ∷ 57 ∷ 56 ∷ 32 ∷ 49 ∷ 32 ∷ 53 ∷ []) ≡ bad 31
unfolding patterson
two_to_32 = refl

-- more successors than jobs, met before the successors are: `2 1 5 3 1 3 0`
pub more_successors : patterson (50 ∷ 32 ∷ 49 ∷ 32 ∷ 53 ∷ 32 ∷ 51 ∷ 32 ∷ 49 ∷ 32 ∷ 51 ∷ 32 ∷ 48 ∷ []) ≡ bad 31
unfolding patterson
more_successors = refl

-- successor 0: `2 1 5 3 1 1 0`
pub successor_zero : patterson (50 ∷ 32 ∷ 49 ∷ 32 ∷ 53 ∷ 32 ∷ 51 ∷ 32 ∷ 49 ∷ 32 ∷ 49 ∷ 32 ∷ 48 ∷ []) ≡ bad 32
unfolding patterson
successor_zero = refl

-- successor 3 of two jobs: `2 1 5 3 1 1 3`
pub successor_three : patterson (50 ∷ 32 ∷ 49 ∷ 32 ∷ 53 ∷ 32 ∷ 51 ∷ 32 ∷ 49 ∷ 32 ∷ 49 ∷ 32 ∷ 51 ∷ []) ≡ bad 32
unfolding patterson
successor_three = refl

-- 2 to the power 32 and 1 is not 1, with zeros in front: `2 1 5 3 1 1 00004294967297`
pub huge_successor : patterson (50 ∷ 32 ∷ 49 ∷ 32 ∷ 53 ∷ 32 ∷ 51 ∷ 32 ∷ 49 ∷ 32 ∷ 49 ∷ 32 ∷ 48 ∷ 48 ∷ 48 ∷ 48 ∷ 52 ∷ 50 ∷ 57 ∷ 52 ∷ 57 ∷ 54 ∷ 55 ∷ 50 ∷ 57 ∷ 55 ∷ []) ≡ bad 32
unfolding patterson
huge_successor = refl
