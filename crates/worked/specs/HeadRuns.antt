-- How a run of the read head's call is put down (document 02, Items 2 and 3): its number, the windows and durations, and what is due: the number of moves and
-- each job's e and l, that number and the job of a clash, or a refusal.
use Rattle.std.specs.Prelude.{ℕ, ◌≡◌, List, [], ◌∷◌, map}
use Rattle.narrowing.specs.Windows.{Win}
use Rattle.answers.specs.Said.{Word, said}
use Rattle.promises.specs.Counted.{ExactlyCounts}
use Rattle.timetable.specs.Table.{call, leaves, narrowed}
use Rattle.heads.specs.Promise.{head_ask, Left, left, sequenced}
use Rattle.worked.specs.Rows.{Job, job, windows_of, durations_of, Span, spans}

pub record HeadRun : Type 0 where
  pub number : ℕ
  pub win : Win
  pub p : List ℕ
  pub due : Left

-- the definition gives what is due
abbrev pub HeadDue : HeadRun → Type 0
HeadDue x = sequenced x.win x.p ≡ x.due

-- so does whatever meets the contract's facts
abbrev pub HeadPinned : HeadRun → Type 0
HeadPinned x = (a : Left) → ExactlyCounts (head_ask x.win x.p) a → a ≡ x.due

-- time-tabling finds nothing to move where each job draws the one head that there is
abbrev pub Unseen : HeadRun → Type 0
Unseen x = narrowed (call x.win x.p (map (λ (k : ℕ). 1) x.p) 1 []) ≡ leaves (said Word.settled (0 ∷ [])) x.win []

-- ---- rows

-- a job on the head: e, l, p
abbrev pub head_job : ℕ → ℕ → ℕ → Job
head_job e l p = job e l p 1

abbrev pub head_row : ℕ → List Job → Left → HeadRun
head_row number js due = record { number = number; win = windows_of js; p = durations_of js; due = due }

abbrev pub head_settles : ℕ → List Job → ℕ → List Span → HeadRun
head_settles number js count xs = head_row number js (left (said Word.settled (count ∷ [])) (spans xs))

-- with no move
abbrev pub head_rests : ℕ → List Job → HeadRun
head_rests number js = head_row number js (left (said Word.settled (0 ∷ [])) (windows_of js))

abbrev pub head_clashes : ℕ → List Job → ℕ → ℕ → HeadRun
head_clashes number js count j = head_row number js (left (said Word.clash (count ∷ j ∷ [])) (windows_of js))

abbrev pub head_refuses : ℕ → List Job → ℕ → HeadRun
head_refuses number js k = head_row number js (left (said Word.refused (k ∷ [])) (windows_of js))

-- lists of unequal lengths
abbrev pub head_unequal : ℕ → Win → List ℕ → HeadRun
head_unequal number W p = record { number = number; win = W; p = p; due = left (said Word.refused (1 ∷ [])) W }
