-- The Patterson layout (document 01, 'Library layouts'), with the refusals of document 02, Item 1, as the text meets them: 30 for what is no number,
-- is missing or is left over; 31 for a number above its limit; 32 for a successor out of range.
use Rattle.std.specs.Prelude.{ℕ, List}
use Rattle.joblist.specs.Limits.{most_time, most_demand, most_jobs, most_resources}
use Rattle.texts.specs.Tokens.{Token, tokens}
use Rattle.texts.specs.Readings.{Read, good, and_then, one, in_turn, numbers_up_to, nothing_more}
use Rattle.projects.specs.Projects.{Row, Project, Head, headed}

-- a job's row up to its successors: duration, a demand for each of k resources, how many successors (no more than the n jobs)
unfoldable pub head : ℕ → ℕ → List Token → Read Head
unfolding one numbers_up_to
head n k ts =
    and_then (one most_time 31 ts) (λ d t₁.
    and_then (numbers_up_to most_demand k t₁) (λ qs t₂.
    and_then (one n 31 t₂) (λ c t₃.
    good (record { duration = d; demands = qs; count = c }) t₃)))

-- a whole row; its number j does not stand there
unfoldable pub row : ℕ → ℕ → ℕ → List Token → Read Row
unfolding head headed
row n k j ts = headed n (head n k ts)

-- the counts and the capacities
pub record Opening : Type 0 where
  pub jobs : ℕ
  pub resources : ℕ
  pub capacities : List ℕ

unfoldable pub opening : List Token → Read Opening
unfolding one numbers_up_to
opening ts =
    and_then (one most_jobs 31 ts) (λ n t₁.
    and_then (one most_resources 31 t₁) (λ k t₂.
    and_then (numbers_up_to most_demand k t₂) (λ cs t₃.
    good (record { jobs = n; resources = k; capacities = cs }) t₃)))

-- job count, resource count, capacities, a row for each job, and nothing more
unfoldable pub project : List Token → Read Project
unfolding opening row in_turn
project ts =
    and_then (opening ts) (λ o t₁.
    and_then (in_turn (row o.jobs o.resources) 0 o.jobs t₁) (λ rs t₂.
    nothing_more (record { capacities = o.capacities; rows = rs }) t₂))

-- a text of this layout
unfoldable pub patterson : List ℕ → Read Project
unfolding project tokens
patterson s = project (tokens s)
