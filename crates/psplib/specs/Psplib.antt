-- The PSPLIB single-mode layout (document 01, 'Library layouts'), with the refusals of document 02, Items 1 and 13: 35 unless the headings are the five,
-- each once and in order; then 30, 31 and 32 as the text meets them.
use Rattle.std.specs.Prelude.{ℕ, cond, List, [], ◌∷◌}
use Rattle.joblist.specs.Limits.{most_demand, most_jobs, most_resources}
use Rattle.texts.specs.Tokens.{tokens}
use Rattle.texts.specs.Readings.{Read, bad, good, and_then, in_turn, numbers_up_to}
use Rattle.headings.specs.Lines.{behind_lines, counted}
use Rattle.headings.specs.Headings.{marks, in_order, section}
use Rattle.projects.specs.Projects.{Row, Project}
use Rattle.projects.specs.Tables.{relation, Need, request}

-- the jobs, one by one: successors from the relations, duration and demands from the requests
unfoldable pub join : List (List ℕ) → List Need → List Row
join [] qs = []
join (ss ∷ sss) [] = []
join (ss ∷ sss) (q ∷ qs) = record { duration = q.duration; demands = q.demands; successors = ss } ∷ join sss qs

-- the three tables of n jobs on k resources, each from its heading on: its rows stand behind the heading's line and a line of column names, those of
-- the requests behind a line of hyphens too
unfoldable pub tables : ℕ → ℕ → List ℕ → List ℕ → List ℕ → Read Project
unfolding in_turn relation request numbers_up_to tokens behind_lines join
tables n k relations requests capacities =
    and_then (in_turn (relation n) 0 n (tokens (behind_lines 2 relations))) (λ sss t₁.
    and_then (in_turn (request k) 0 n (tokens (behind_lines 3 requests))) (λ qs t₂.
    and_then (numbers_up_to most_demand k (tokens (behind_lines 2 capacities))) (λ cs t₃.
    good (record { capacities = cs; rows = join sss qs }) [])))

-- the two counts on the lines of their headings, then the tables; `part i` is the text from heading i on
unfoldable pub sections : (ℕ → List ℕ) → Read Project
unfolding counted tables
sections part =
    and_then (counted most_jobs (part 0)) (λ n t₁.
    and_then (counted most_resources (part 1)) (λ k t₂.
    tables n k (part 2) (part 3) (part 4)))

-- a text of this layout; what stands behind the rows is passed over
unfoldable pub psplib : List ℕ → Read Project
unfolding marks in_order section sections
psplib s = cond (in_order 0 (marks s)) (sections (λ k. section k (marks s))) (bad 35)
