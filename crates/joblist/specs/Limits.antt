-- The limits of document 01, 'Job lists', and of document 02, each in this one place; and lists with the limit of their numbers.
use Rattle.std.specs.Prelude.{ℕ, List, [], ◌∷◌, length}
use Rattle.narrowing.specs.Windows.{Win}

-- times and durations
abbrev pub most_time : ℕ
most_time = 1000000

-- demand and capacity
abbrev pub most_demand : ℕ
most_demand = 10000

-- jobs
abbrev pub most_jobs : ℕ
most_jobs = 256

-- resources of a project
abbrev pub most_resources : ℕ
most_resources = 8

-- a list with the limit of its numbers
pub record Column : Type 0 where
  pub list : List ℕ
  pub most : ℕ

abbrev pub time_column : List ℕ → Column
time_column xs = record { list = xs; most = most_time }

abbrev pub demand_column : List ℕ → Column
demand_column xs = record { list = xs; most = most_demand }

-- the number of jobs
abbrev pub jobs : Win → ℕ
jobs W = length W.e

-- the lists of narrowing and of the checker: earliest start, latest end, duration, demand; and beside them the capacity
abbrev pub four_lists : Win → List ℕ → List ℕ → List Column
four_lists W p r = time_column W.e ∷ time_column W.l ∷ time_column p ∷ demand_column r ∷ []

abbrev pub supply : ℕ → List Column
supply cap = demand_column (cap ∷ []) ∷ []

-- the lists of the writer: duration, demand; and beside them the capacity
abbrev pub two_lists : List ℕ → List ℕ → List Column
two_lists p r = time_column p ∷ demand_column r ∷ []

-- the lists of the overload check
abbrev pub three_lists : Win → List ℕ → List Column
three_lists W p = time_column W.e ∷ time_column W.l ∷ time_column p ∷ []
