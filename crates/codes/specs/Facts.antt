-- What a record has to be on the windows reached so far (document 01, 'Answer table', codes 21 to 26; document 02, Item 7, code 27): the fact that
-- each code asks for.
use Rattle.std.specs.Prelude.{ℕ, ◌+◌, ◌≤◌, ◌<◌, ◌≡◌, true, List}
use Rattle.lists.specs.Lists.{◌!◌}
use Rattle.narrowing.specs.Windows.{Win, Side, early, late, side_of}
use Rattle.joblist.specs.Limits.{most_time}
use Rattle.journal.specs.Journal.{side_word, job_of, time_of, is_member}
use Rattle.timetable.specs.Time.{Jobs, Sure}
use Rattle.timetable.specs.Reason.{Counted, Exceeds, Lean}

-- a record's side
abbrev pub side : List ℕ → Side
side x = side_of (x ! side_word)

-- 21: job in the list, side at most 1, time at most its limit
pub record InRange (J : Jobs) (x : List ℕ) : Type 0 where
  pub job : job_of x < J.n
  pub side : x ! side_word ≤ 1
  pub time : time_of x ≤ most_time

-- a job can take part: it is in the list, with a duration and a demand
pub record TakesPart (J : Jobs) (k : ℕ) : Type 0 where
  pub listed : k < J.n
  pub lasts : 1 ≤ J.p ! k
  pub takes : 1 ≤ J.r ! k

-- 22: the moved job and every member take part, and the moved job is no member
pub record Partners (J : Jobs) (x : List ℕ) : Type 0 where
  pub lasts : 1 ≤ J.p ! job_of x
  pub takes : 1 ≤ J.r ! job_of x
  pub members : (k : ℕ) → is_member x k ≡ true → TakesPart J k × (k ≡ job_of x → ⊥)

-- 23, 24 and 27 ask for facts of the record alone: `Counted`, `Exceeds` and `Lean` (`timetable: Reason`)

-- the moved job's own fact on the windows W: on side 0 it starts no earlier than t - p + 1, on side 1 no later than t
abbrev pub OwnTrue : List ℕ → Win → ℕ → Side → ℕ → Type 0
OwnTrue p W j early t = t < W.e ! j + p ! j
OwnTrue p W j late t = W.l ! j ≤ t + p ! j

-- 25: the stated facts are true of the windows W: each member starts no earlier than t - p + 1 and no later than t
pub record StatedTrue (J : Jobs) (W : Win) (x : List ℕ) : Type 0 where
  pub own : OwnTrue J.p W (job_of x) (side x) (time_of x)
  pub members : (k : ℕ) → is_member x k ≡ true → Sure J.p W k (time_of x)

-- 26: the change tightens
abbrev pub Tightens : Win → ℕ → Side → ℕ → Type 0
Tightens W j early t = W.e ! j ≤ t
Tightens W j late t = t < W.l ! j

-- the facts of 21 to 26: all that a record's change needs
pub record Passes (J : Jobs) (W : Win) (x : List ℕ) : Type 0 where
  pub in_range : InRange J x
  pub partners : Partners J x
  pub counted : Counted x
  pub exceeds : Exceeds J x
  pub stated : StatedTrue J W x
  pub tightens : Tightens W (job_of x) (side x) (time_of x)

-- a good record
pub record GoodRecord (J : Jobs) (W : Win) (x : List ℕ) : Type 0 where
  pub passes : Passes J W x
  pub lean : Lean J x
