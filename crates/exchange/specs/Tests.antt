-- The tests of a reader (document 02, Items 1 and 13), in facts and in their order: the horizon's limit, then what the text meets, then 37, 38, 33, 34.
use Rattle.std.specs.Prelude.{ℕ, ◌≤◌, ◌<◌, ◌≡◌, ◌⊎◌, length}
use Rattle.joblist.specs.Limits.{most_time}
use Rattle.chains.specs.Paths.{Cycle, Longer}
use Rattle.texts.specs.Readings.{Read, bad, good}
use Rattle.projects.specs.Projects.{Project, pairs_of}
use Rattle.exchange.specs.Calls.{Lent, TextCall, Order, duration_of}

-- four lists of e, l, d and q numbers are as long as there are n jobs, and lists of j and s numbers have room for m pairs
pub record Fitting (n m e l d q j s : ℕ) : Type 0 where
  pub est : e ≡ n
  pub lct : l ≡ n
  pub dur : d ≡ n
  pub dem : q ≡ n
  pub jobs : m ≤ j
  pub successors : m ≤ s

-- one of them is not, or has not
abbrev pub Misfit : ℕ → ℕ → ℕ → ℕ → ℕ → ℕ → ℕ → ℕ → Type 0
Misfit n m e l d q j s = (e ≡ n → ⊥) ⊎ ((l ≡ n → ⊥) ⊎ ((d ≡ n → ⊥) ⊎ ((q ≡ n → ⊥) ⊎ ((j < m) ⊎ (s < m)))))

-- the lent lists fit the project, or do not
abbrev pub ListsFit : Project → Lent → Type 0
ListsFit x L = Fitting (length x.rows) (length (pairs_of x)) (length L.est) (length L.lct) (length L.dur) (length L.dem) (length L.jobs) (length L.successors)

abbrev pub Unfit : Project → Lent → Type 0
Unfit x L = Misfit (length x.rows) (length (pairs_of x)) (length L.est) (length L.lct) (length L.dur) (length L.dem) (length L.jobs) (length L.successors)

-- the horizon is shorter than the longest chain
abbrev pub TooLong : Project → ℕ → Type 0
TooLong x horizon = Longer (Order x) (length x.rows) (duration_of x) horizon

-- a test in facts: its number where the fault is there, else what comes next
abbrev pub Unless : ℕ → Type 0 → Type 0 → (ℕ → Type 0) → ℕ → Type 0
Unless k Fact Fault Next c = (Fault × (c ≡ k)) ⊎ (Fact × Next c)

-- no test has failed
abbrev pub None : ℕ → Type 0
None c = c ≡ 0

-- of a text that says x: no such resource, a list or the room that does not fit, a cycle, a chain that is too long
abbrev pub Tested : Project → ℕ → ℕ → Lent → ℕ → Type 0
Tested x resource horizon L =
    Unless 37 (resource < length x.capacities) (length x.capacities ≤ resource)
    (Unless 38 (ListsFit x L) (Unfit x L)
    (Unless 33 (Cycle (Order x) → ⊥) (Cycle (Order x))
    (Unless 34 (TooLong x horizon → ⊥) (TooLong x horizon) None)))

-- what the text meets, and behind it the tests of what it says
abbrev pub Met : Read Project → ℕ → ℕ → Lent → ℕ → Type 0
Met (bad d) resource horizon L c = c ≡ d
Met (good x rest) resource horizon L c = Tested x resource horizon L c

-- the number of the first test that fails, and 0 where none does
abbrev pub Refusal : TextCall → ℕ → Type 0
Refusal c = Unless 31 (c.horizon ≤ most_time) (most_time < c.horizon) (Met c.text c.resource c.horizon c.lent)
