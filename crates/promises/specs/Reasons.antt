-- What the log of an answer holds (document 01, 'Order of work' and 'Log records'), over any rules: a record for each move, the closing one last in a
-- clash; and no record where a window is too short (document 02, Item 3).
use Rattle.std.specs.Prelude.{ℕ, suc, ◌≤◌, ◌<◌, ◌≡◌, List, [], ◌∷◌, map, length}
use Rattle.narrowing.specs.Windows.{early, slack}
use Rattle.narrowing.specs.Search.{Move}
use Rattle.narrowing.specs.Rounds.{Chosen}
use Rattle.narrowing.specs.Led.{Led, Clashed}
use Rattle.answers.specs.Said.{Word, said}
use Rattle.journal.specs.Journal.{record_at, logged}
use Rattle.promises.specs.Ask.{Ask, job_count, lasts}
use Rattle.promises.specs.Table.{After}

-- n records in the log, the rest as before: each is a move's, the search's own choice on the windows that those before it left, to its own bound.
-- Each is as promised.
pub record Logged (A : Ask) (a : After) (n : ℕ) : Type 0 where
  pub moves : List Move
  pub many : length moves ≡ n
  pub log : a.log ≡ logged (map A.entry moves) A.log
  pub chosen : Chosen A.search A.rules A.win 0 early moves
  pub fine : (i : ℕ) → i < n → A.fine (record_at a.log i)

-- settled: the moves lead to the windows left; there are at most as many as the sum of l - e - p
pub record Settles (A : Ask) (a : After) (n : ℕ) : Type 0 where
  pub logs : Logged A a n
  pub led : Led A.search A.win logs.moves a.win
  pub most : n ≤ slack (lasts A) A.win (job_count A)

-- clash: with no record, j is the lowest job whose window is too short; else every window was long enough before the last move, which is job j's and
-- closes its window; there are at most as many as that sum and one more
pub record Clashes (A : Ask) (a : After) (n j : ℕ) : Type 0 where
  pub logs : Logged A a n
  pub clashed : Clashed A.search A.win logs.moves j
  pub most : n ≤ suc (slack (lasts A) A.win (job_count A))

pub record Reasons (A : Ask) (a : After) : Type 0 where
  pub settled : (n : ℕ) → a.says ≡ said Word.settled (n ∷ []) → Settles A a n
  pub clash : (n j : ℕ) → a.says ≡ said Word.clash (n ∷ j ∷ []) → Clashes A a n j
