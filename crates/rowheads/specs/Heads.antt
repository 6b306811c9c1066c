-- The rows of any table as one walk reads them: a head, then so many successors.
use Rattle.std.specs.Prelude.{ℕ, List, []}
use Rattle.joblist.specs.Limits.{most_time, most_demand}
use Rattle.texts.specs.Tokens.{Token}
use Rattle.texts.specs.Readings.{Read, good, and_then, one, numbers_up_to}
use Rattle.projects.specs.Projects.{Row, Head, headed}
use Rattle.projects.specs.Patterson.{head}
use Rattle.projects.specs.Tables.{numbered}
use Rattle.rowheads.specs.declared.Table.{Table}
use Rattle.rowheads.specs.declared.Table.TheVariants.{Whole, Relations, Requests}

-- a duration and a demand for each of k resources: all that a row of requests has behind its numbers
unfoldable pub need_head : ℕ → List Token → Read Head
unfolding one numbers_up_to
need_head k ts =
    and_then (one most_time 31 ts) (λ d t₁.
    and_then (numbers_up_to most_demand k t₁) (λ qs t₂.
    good (record { duration = d; demands = qs; count = 0 }) t₂))

-- a head whose successor count is still to be read
unfoldable pub with_count : ℕ → Head → List Token → Read Head
unfolding one
with_count n h ts = and_then (one n 31 ts) (λ c rest. good (record { duration = h.duration; demands = h.demands; count = c }) rest)

-- the head of a row of relations, which has no duration and no demands, and of a row of requests, which has no successors
abbrev pub bare : Head
bare = record { duration = 0; demands = []; count = 0 }

unfoldable pub relation_head : ℕ → ℕ → List Token → Read Head
unfolding numbered with_count
relation_head n j ts = and_then (numbered j ts) (λ a rest. with_count n bare rest)

unfoldable pub request_head : ℕ → ℕ → List Token → Read Head
unfolding numbered need_head
request_head k j ts = and_then (numbered j ts) (λ a rest. need_head k rest)

-- the head of row j of a table for n jobs: whole rows on k resources, precedence relations, or requests on k resources
unfoldable pub head_in : Table → ℕ → ℕ → List Token → Read Head
unfolding head relation_head request_head
head_in (Whole k) n j ts = head n k ts
head_in Relations n j ts = relation_head n j ts
head_in (Requests k) n j ts = request_head k j ts

unfoldable pub row_in : Table → ℕ → ℕ → List Token → Read Row
unfolding head_in headed
row_in table n j ts = headed n (head_in table n j ts)
