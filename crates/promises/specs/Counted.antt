-- What a call with numbers and without a log promises, over any rules (document 02, Item 2): it says how many moves were made, and of a clash the job.
-- Refusals 1 to 3, demands 2 and 3 and the windows are as of every call without a log; no premise on a log is left. In demands 2 and 3 and in the rows
-- 'exactly when' the run is named by the number of moves that it needs alone; `answered` and `moves` name it.
use Rattle.std.specs.Prelude.{ℕ, suc, ◌≤◌, ◌≡◌, List, [], ◌∷◌, ◌↔◌, length}
use Rattle.narrowing.specs.Windows.{Win, early, slack}
use Rattle.narrowing.specs.Rules.{Family}
use Rattle.narrowing.specs.Search.{Search, Move}
use Rattle.narrowing.specs.Rounds.{Chosen}
use Rattle.narrowing.specs.Led.{Led, Clashed}
use Rattle.answers.specs.Said.{Word, Said, said}
use Rattle.joblist.specs.Limits.{Column}
use Rattle.promises.specs.Ask.{Ask, job_count, lasts, Good}
use Rattle.promises.specs.Table.{narrowed}
use Rattle.promises.specs.Promise.{Scheduled, StableIn, NoneIn, AllFixed, needs}
use Rattle.promises.specs.Plain.{task_of, Left, unwritten, numberless, Plain}

-- a call without a log, as one whose log has no word and whose room is always enough
abbrev pub without_log : Win → List Column → List Column → Search → Family → (List ℕ → Type 0) → (List ℕ → Type 0) → Ask
without_log W beside alone R G fits broken =
    record {
      win = W;
      beside = beside;
      alone = alone;
      log = [];
      room = suc (slack R.p W R.n);
      search = R;
      rules = G;
      fits = fits;
      broken = broken;
      entry = λ m. [];
      fine = λ x. Unit {0};
    }

-- what it answers and leaves: the answer table's, but for the log
unfoldable pub left_by : Ask → Left
unfolding narrowed slack
left_by A = unwritten (narrowed A)

-- n moves that end as `End` says, n up to a limit: each is the search's own choice on the windows that those before it left, to its own bound, and no rule
-- applied at a place passed over
pub record Made (A : Ask) (n : ℕ) (End : List Move → Type 0) (limit : ℕ) : Type 0 where
  pub moves : List Move
  pub many : length moves ≡ n
  pub chosen : Chosen A.search A.rules A.win 0 early moves
  pub ends : End moves
  pub most : n ≤ limit

-- what the numbers count
pub record Tally (A : Ask) (a : Left) : Type 0 where
  -- settled: the moves lead to the windows left; there are at most as many as the sum of l - e - p
  pub settled : (n : ℕ) → a.says ≡ said Word.settled (n ∷ [])
      → Made A n (λ ms. Led A.search A.win ms a.win) (slack (lasts A) A.win (job_count A))
  -- clash: with no move, j is the lowest job whose window is too short; else every window was long enough before the last move, which is job j's and closes
  -- its window; there are at most as many as that sum and one more
  pub clash : (n j : ℕ) → a.says ≡ said Word.clash (n ∷ j ∷ [])
      → Made A n (λ ms. Clashed A.search A.win ms j) (suc (slack (lasts A) A.win (job_count A)))

-- what determines the answer and the windows, in facts (`counts_firm`)
pub record ExactlyCounts (A : Ask) (a : Left) : Type 0 where
  -- each refusal exactly where its test is the first that fails, settled with the largest stable windows, clash where there are none; only settled moves a
  -- window
  pub plain : Plain (task_of A) (numberless a)
  -- settled and clash exactly of a good list, with the number of moves needed: where stable windows exist, and where none do
  pub settled : (n : ℕ) → (a.says ≡ said Word.settled (n ∷ [])) ↔ (Good A × (n ≡ needs A) × ((U : Win) × StableIn A U))
  pub clash : (n : ℕ) → ((j : ℕ) × (a.says ≡ said Word.clash (n ∷ j ∷ []))) ↔ (Good A × (n ≡ needs A) × NoneIn A)
  pub moves : Tally A a

-- demand 2, of the answer x and the windows U left; `premise` is what it asks beside a good list (`Promise: Kept` has room in the log for it)
pub record KeptUnder (A : Ask) (premise : Type 0) (x : Said) (U : Win) : Type 0 where
  -- every schedule within the submitted windows lies within those left
  pub schedules : (s : List ℕ) → Scheduled A A.win s → Scheduled A U s
  -- a clash means that no schedule exists
  pub none : x.word ≡ Word.clash → (s : List ℕ) → Scheduled A A.win s → ⊥
  -- where every job of a good list is fixed, clash, under the premise, exactly if the starts are broken
  pub fixed : Good A → AllFixed A → premise → (x.word ≡ Word.clash) ↔ A.broken A.win.e

-- the contract
pub record Counts (A : Ask) (a : Left) : Type 0 where
  pub answered : a ≡ left_by A
  pub exactly : ExactlyCounts A a
  -- demand 2, with no premise on a log
  pub kept : KeptUnder A (Unit {0}) a.says a.win
