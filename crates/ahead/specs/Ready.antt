-- What the search asks of the lists that it is lent: n jobs within the limits, and their order by rising earliest start.
use Rattle.std.specs.Prelude.{ℕ, ◌≤◌, ◌≡◌, List, length}
use Rattle.lists.specs.Orders.{Ordered}
use Rattle.joblist.specs.Limits.{most_jobs, time_column}
use Rattle.joblist.specs.GoodList.{Within}

-- n jobs: earliest starts, latest ends counted back, and durations
pub record LentWindows (n : ℕ) (starts ends p : List ℕ) : Type 0 where
  pub few : n ≤ most_jobs
  pub starts_long : length starts ≡ n
  pub ends_long : length ends ≡ n
  pub p_long : length p ≡ n
  pub starts_most : Within (time_column starts)
  pub ends_most : Within (time_column ends)
  pub p_most : Within (time_column p)

-- and o lists them by rising earliest start, in a list with room for all
pub record Ready (n : ℕ) (starts ends p o : List ℕ) : Type 0 where
  pub lent : LentWindows n starts ends p
  pub room : length o ≡ most_jobs
  pub order : Ordered starts n o
