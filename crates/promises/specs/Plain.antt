-- What a call without a log and without numbers promises, over any rules (document 02, Items 2, 6 and 8): settled with the largest stable windows, clash
-- where there are none, or refused by the number of the first test that fails. Nothing here knows a run, so any order of work may meet it.
use Rattle.std.specs.Prelude.{ℕ, ◌≤◌, ◌≡◌, List, [], ◌∷◌, ◌⊎◌, ◌↔◌}
use Rattle.narrowing.specs.Windows.{Win}
use Rattle.narrowing.specs.Rules.{Family, Largest, NoCandidate}
use Rattle.narrowing.specs.Led.{SameLengths}
use Rattle.answers.specs.Said.{Word, Said, said}
use Rattle.joblist.specs.Limits.{Column, time_column}
use Rattle.joblist.specs.GoodList.{GoodList, Given}
use Rattle.promises.specs.Ask.{Ask, job_count, lasts}
use Rattle.promises.specs.Table.{After}

-- the submitted windows, the number of jobs, their durations, the other lists, the numbers that stand alone, and the rules
pub record Task : Type 1 where
  pub win : Win
  pub n : ℕ
  pub p : List ℕ
  pub beside : List Column
  pub alone : List Column
  pub rules : Family

-- that of a call with a log
abbrev pub task_of : Ask → Task
task_of A = record { win = A.win; n = job_count A; p = lasts A; beside = A.beside; alone = A.alone; rules = A.rules }

abbrev pub columns : Task → List Column
columns K = time_column K.win.e ∷ time_column K.win.l ∷ time_column K.p ∷ K.beside

abbrev pub GoodTask : Task → Type 0
GoodTask K = GoodList K.n (columns K) K.alone

-- what it leaves: its answer and the windows
pub record Left : Type 0 where
  pub says : Said
  pub win : Win

abbrev pub left : Said → Win → Left
left x W = record { says = x; win = W }

-- an answer without its numbers, but for a refusal
abbrev pub unnumbered : Said → Said
unnumbered a = bare a.word a.numbers
  where
    bare : Word → List ℕ → Said
    bare Word.refused ns = said Word.refused ns
    bare Word.settled ns = said Word.settled []
    bare Word.clash ns = said Word.clash []
    bare Word.holds ns = said Word.holds []
    bare Word.rejected ns = said Word.rejected []
    bare Word.none ns = said Word.none []
    bare Word.overload ns = said Word.overload []
    bare Word.read ns = said Word.read []
    bare Word.written ns = said Word.written []
    bare Word.marked ns = said Word.marked []

-- what a call with a log leaves, but for the log; what is left without an answer's numbers; both
abbrev pub unwritten : After → Left
unwritten a = left a.says a.win

abbrev pub numberless : Left → Left
numberless a = left (unnumbered a.says) a.win

abbrev pub unlogged : After → Left
unlogged a = record { says = unnumbered a.says; win = a.win }

pub record Plain (K : Task) (a : Left) : Type 0 where
  -- refusal k exactly where its test is the first that fails; a good list is decided
  pub refused : (k : ℕ) → (a.says ≡ said Word.refused (k ∷ [])) ↔ ((1 ≤ k) × Given k K.n (columns K) K.alone)
  pub decided : GoodTask K → (a.says ≡ said Word.settled []) ⊎ (a.says ≡ said Word.clash [])
  -- settled leaves the largest stable windows; clash says that there are none
  pub settled : a.says.word ≡ Word.settled → GoodTask K × Largest K.n K.p K.rules K.win a.win
  pub clash : a.says.word ≡ Word.clash → GoodTask K × NoCandidate K.n K.p K.rules K.win
  -- every other answer leaves the windows as submitted; no list changes its length
  pub submitted : (a.says.word ≡ Word.settled → ⊥) → a.win ≡ K.win
  pub lengths : SameLengths K.win a.win
