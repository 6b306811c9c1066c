-- The checker keeps its promise: its test and change of a record are as is asked of any, and it takes the planner's logs.
use Prim.Native.Nat.{ℕ}
use mathlib.Core.Path.{◌≡◌, refl}
use Rattle.timetable.specs.Table.{Call, jobs_of, asks}
use Rattle.verdicts.specs.Replay as verdicts
use Rattle.verdicts.proofs.Meaning as general
use Rattle.checks.specs.Replay.{trial, Checked, checked}
use Rattle.checks.specs.Promise.{Checks}
use Rattle.checks.proofs.Logs.{takes_logs}
use Rattle.checks.proofs.Sound.{judging}

-- the answer is the general one
pub by_trial : (c : Call) (count : ℕ) (a : Checked) → Checks c count a → a ≡ verdicts.checked (trial (jobs_of c)) (asks c) count
unfolding checked
by_trial c count a h = h.answered

pub checks : (c : Call) (count : ℕ) → Checks c count (checked c count)
unfolding checked
checks c count =
    let h = general.checks (trial (jobs_of c)) (asks c) (judging c) count in
    record { answered = refl; exactly = h.exactly; implied = h.implied; kept = h.kept; none = h.none; takes = takes_logs c count }
