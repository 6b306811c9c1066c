-- What a code finds in a record (document 01, 'Answer table', codes 21 to 26; document 02, Item 7, code 27): a fault each, the contrary of its fact.
use Rattle.std.specs.Prelude.{ℕ, ◌+◌, ◌≤◌, ◌<◌, ◌≡◌, true, List, ◌⊎◌}
use Rattle.lists.specs.Lists.{◌!◌}
use Rattle.lists.specs.Spares.{Spare}
use Rattle.narrowing.specs.Windows.{Win, Side, early, late}
use Rattle.joblist.specs.Limits.{most_time}
use Rattle.journal.specs.Journal.{side_word, job_of, time_of, is_member}
use Rattle.timetable.specs.Time.{Jobs}
use Rattle.codes.specs.Facts.{side, Passes}

abbrev pub OutOfRange : Jobs → List ℕ → Type 0
OutOfRange J x = (J.n ≤ job_of x) ⊎ ((1 < x ! side_word) ⊎ (most_time < time_of x))

-- p = 0 or r = 0
abbrev pub Idle : Jobs → ℕ → Type 0
Idle J k = (J.p ! k ≡ 0) ⊎ (J.r ! k ≡ 0)

-- the moved job or a member has p = 0 or r = 0, or a member is not in the list or is the moved job
abbrev pub BadPartner : Jobs → List ℕ → Type 0
BadPartner J x = Idle J (job_of x) ⊎ ((k : ℕ) × (is_member x k ≡ true) × ((J.n ≤ k) ⊎ (Idle J k ⊎ (k ≡ job_of x))))

abbrev pub OwnFalse : List ℕ → Win → ℕ → Side → ℕ → Type 0
OwnFalse p W j early t = W.e ! j + p ! j ≤ t
OwnFalse p W j late t = t + p ! j < W.l ! j

-- a stated fact is not true: the moved job's, or a member could start later than t, or earlier than t - p + 1
abbrev pub Untrue : Jobs → Win → List ℕ → Type 0
Untrue J W x =
    OwnFalse J.p W (job_of x) (side x) (time_of x)
    ⊎ ((k : ℕ) × (is_member x k ≡ true) × ((time_of x + J.p ! k < W.l ! k) ⊎ (W.e ! k + J.p ! k ≤ time_of x)))

-- the change tightens nothing
abbrev pub Idles : Win → ℕ → Side → ℕ → Type 0
Idles W j early t = t < W.e ! j
Idles W j late t = W.l ! j ≤ t

-- a member is spare: without it the demands named still exceed the capacity
abbrev pub HasSpare : Jobs → List ℕ → Type 0
HasSpare J x = (k : ℕ) × Spare J.n J.r (J.r ! job_of x) J.cap (is_member x) k

-- a record that is good but for a spare member
pub record OnlySpare (J : Jobs) (W : Win) (x : List ℕ) : Type 0 where
  pub passes : Passes J W x
  pub spare : HasSpare J x
