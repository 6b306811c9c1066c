-- A text read whole, whatever its layout: what it says, with durations and demands in arrays, and where its pairs can be read again.
use Rattle.std.specs.Prelude.{ℕ, ◌≤◌, ◌≡◌, List, [], length, drop, take, Result, Ok, Err}
use Rattle.lists.specs.Lists.{◌!◌}
use Rattle.answers.specs.declared.reasons.Refusal.{Refusal}
use Rattle.answers.specs.Said.{number_of}
use Rattle.joblist.specs.Limits.{most_time, most_jobs}
use Rattle.texts.specs.Tokens.{Token, tokens}
use Rattle.texts.specs.Readings.{Read, bad, good}
use Rattle.projects.specs.Projects.{Project, pairs_of, durations, demands_on, WithinLimits}
use Rattle.projects.specs.Patterson.{Opening}
use Rattle.walking.specs.Comes.{comes, rows_at}
use Rattle.parsing.specs.declared.Opened.{Opened}
use Rattle.parsing.specs.declared.Shape.{Shape}
use Rattle.parsing.specs.declared.Parsed.{Parsed}

-- the counts, and one of the capacities
abbrev pub OpenSays : Read Opening → List ℕ → ℕ → Result Opened Refusal → Type 0
OpenSays r s res (Ok z) =
    (o : Opening) × (r ≡ good o (tokens (drop z.at s))) × (o.jobs ≡ z.n) × (o.resources ≡ z.k) × (o.capacities ! res ≡ z.cap) × (z.n ≤ most_jobs) × (length o.capacities ≡ z.k)
OpenSays r s res (Err c) = r ≡ bad (number_of c)

-- a text that says x, and where things stand; durs and dems are lists here, so that their lengths, which the type of the arrays fixes, are said too, for
-- `deciding::decide`
pub record Parsing (s : List ℕ) (res : ℕ) (durs dems : List ℕ) (z : Shape) (x : Project) : Type 0 where
  pub jobs : length x.rows ≡ z.n
  pub resources : length x.capacities ≡ z.k
  pub cap : x.capacities ! res ≡ z.cap
  pub durs_are : durations x.rows ≡ take z.n durs
  pub dems_are : demands_on res x.rows ≡ take z.n dems
  pub count : length (pairs_of x) ≡ z.pairs
  pub end : List Token
  pub come : comes z.n z.table s (rows_at z.at) ≡ good (pairs_of x) end
  pub limits : WithinLimits x
  pub long_durs : length durs ≡ most_jobs
  pub long_dems : length dems ≡ most_jobs
  pub low : (j : ℕ) → durs ! j ≤ most_time

-- by the answer: the text says a project, or meets a refusal
abbrev pub ParsedSays : Read Project → List ℕ → ℕ → Result Parsed Refusal → Type 0
ParsedSays r s res (Ok p) = (x : Project) × (r ≡ good x []) × Parsing s res p.dur p.dem p.shape x
ParsedSays r s res (Err c) = r ≡ bad (number_of c)
