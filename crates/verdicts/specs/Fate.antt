-- What a replay comes to, in facts: which records are good on the windows reached, which one closes a window, which one is bad; and the window that
-- is too short before any.
use Rattle.std.specs.Prelude.{ℕ, zero, suc, ◌+◌, ◌≤◌, ◌<◌, ◌≡◌, List, ◌⊎◌}
use Rattle.lists.specs.Lists.{◌!◌}
use Rattle.narrowing.specs.Windows.{Win, Long}
use Rattle.journal.specs.Journal.{job_of, record_at}
use Rattle.promises.specs.Ask.{Ask, job_count, lasts, TooShort}
use Rattle.verdicts.specs.Replay.{Trial, Verdict, holds, clashes, rejected}

-- record i of the call's log
abbrev pub nth : Ask → ℕ → List ℕ
nth A i = record_at A.log i

-- the windows reached by the first i records of the log
unfoldable pub reached : Trial → Ask → ℕ → Win
unfolding record_at
reached T A zero = A.win
reached T A (suc i) = T.changed (reached T A i) (nth A i)

-- record i is good on the windows reached so far
abbrev pub Takes : Trial → Ask → ℕ → Type 0
Takes T A i = T.good (reached T A i) (nth A i)

-- its window still holds the job; or is closed
abbrev pub Held : Trial → Ask → ℕ → Type 0
Held T A i = (reached T A (suc i)).e ! job_of (nth A i) + lasts A ! job_of (nth A i) ≤ (reached T A (suc i)).l ! job_of (nth A i)

abbrev pub Closed : Trial → Ask → ℕ → Type 0
Closed T A i = (reached T A (suc i)).l ! job_of (nth A i) < (reached T A (suc i)).e ! job_of (nth A i) + lasts A ! job_of (nth A i)

-- no window is too short, and the first i records are good and close none
pub record Open (T : Trial) (A : Ask) (i : ℕ) : Type 0 where
  pub long : Long (job_count A) (lasts A) A.win
  pub held : (h : ℕ) → h < i → Takes T A h × Held T A h

-- record h is the first that closes a window
pub record Closing (T : Trial) (A : Ask) (h : ℕ) : Type 0 where
  pub before : Open T A h
  pub takes : Takes T A h
  pub closed : Closed T A h

-- job j's window is closed after i records: before any it is the lowest that is too short, else the last of them is the first to close one
abbrev pub Shut : Trial → Ask → ℕ → ℕ → Type 0
Shut T A zero j = TooShort A j
Shut T A (suc h) j = Closing T A h × (j ≡ job_of (nth A h))

-- the verdict on so many records
abbrev pub Fate : Trial → Ask → ℕ → Verdict → Type 0
Fate T A count (holds U) = (U ≡ reached T A count) × Open T A count
Fate T A count (clashes j) = Shut T A count j
Fate T A count (rejected i k) =
    (i < count) × (((j : ℕ) × Shut T A i j × (k ≡ 20)) ⊎ (Open T A i × T.coded (reached T A i) (nth A i) k × (k ≡ 0 → ⊥)))
