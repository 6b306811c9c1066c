-- The rows of PSPLIB's two tables of jobs (document 01, 'Library layouts'). Precedence relations: job number, mode count, successor count, successors.
-- Requests: job number, mode, duration, demands. Job numbers run from 1, mode counts and modes are 1; anything else there counts as not a number.
use Rattle.std.specs.Prelude.{ℕ, ◌+◌, List}
use Rattle.joblist.specs.Limits.{most_time, most_demand}
use Rattle.texts.specs.Tokens.{Token}
use Rattle.texts.specs.Readings.{Read, good, and_then, one, exactly, in_turn, numbers_up_to}
use Rattle.projects.specs.Projects.{link}

-- the number of job j, then a mode or a mode count
unfoldable pub numbered : ℕ → List Token → Read ℕ
unfolding exactly
numbered j ts = and_then (exactly (j + 1) ts) (λ a rest. exactly 1 rest)

-- job j's successors among n jobs
unfoldable pub relation : ℕ → ℕ → List Token → Read (List ℕ)
unfolding numbered one in_turn link
relation n j ts =
    and_then (numbered j ts) (λ a t₁.
    and_then (one n 31 t₁) (λ c t₂.
    in_turn (λ i. link n) 0 c t₂))

-- job j's duration, and its demand on each of k resources
pub record Need : Type 0 where
  pub duration : ℕ
  pub demands : List ℕ

unfoldable pub request : ℕ → ℕ → List Token → Read Need
unfolding numbered one numbers_up_to
request k j ts =
    and_then (numbered j ts) (λ a t₁.
    and_then (one most_time 31 t₁) (λ d t₂.
    and_then (numbers_up_to most_demand k t₂) (λ qs t₃.
    good (record { duration = d; demands = qs }) t₃)))
