-- Document 01's answer table as one definition over any rules, with Items 3 and 10 of document 02: what narrowing says, and what it leaves in every lent
-- word.
use Rattle.std.specs.Prelude.{ℕ, zero, suc, List, [], ◌∷◌, map, length}
use Rattle.narrowing.specs.Windows.{Win}
use Rattle.narrowing.specs.Run.{Out, settled, clash, short, run}
use Rattle.answers.specs.Said.{Word, Said, said}
use Rattle.journal.specs.Journal.{logged, cleared}
use Rattle.promises.specs.Ask.{Ask, refusal_of}

-- what a call leaves: its answer, the windows and the log
pub record After : Type 0 where
  pub says : Said
  pub win : Win
  pub log : List ℕ

abbrev pub leaves : Said → Win → List ℕ → After
leaves a W log = record { says = a; win = W; log = log }

-- the rows of a run's end; a clash before any move leaves the log as before
unfoldable pub ended : Ask → Out → After
unfolding logged cleared
ended A (settled U ms) = leaves (said Word.settled (length ms ∷ [])) U (logged (map A.entry ms) A.log)
ended A (clash j ms) = leaves (said Word.clash (length ms ∷ j ∷ [])) A.win (logged (map A.entry ms) A.log)
ended A short = leaves (said Word.refused (5 ∷ [])) A.win (cleared A.log)

-- how the run ends
abbrev pub ran : Ask → Out
ran A = run A.search A.room A.win

-- the rows of refusals 1 to 3 and 7, else the run's
unfoldable pub tabled : Ask → ℕ → After
unfolding ended run
tabled A zero = ended A (ran A)
tabled A (suc k) = leaves (said Word.refused (suc k ∷ [])) A.win A.log

-- what narrowing answers and leaves
unfoldable pub narrowed : Ask → After
unfolding tabled refusal_of
narrowed A = tabled A (refusal_of A)
