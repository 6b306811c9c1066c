-- Every log that narrowing writes is taken, replayed from the submitted windows, to the same end.
use Prim.Native.Nat.{ℕ}
use mathlib.Core.List.{List}
use Rattle.timetable.specs.Table.{Call, call, jobs_of, asks}
use Rattle.timetable.proofs.Meaning.{grounds, by_rules}
use Rattle.verdicts.proofs.Taken as general
use Rattle.checks.specs.Replay.{trial, checked}
use Rattle.checks.specs.Promise.{TakesLogs}
use Rattle.checks.proofs.Sound.{judging}
use Rattle.checks.proofs.Taken.{writes}

-- the same call with another log
abbrev after : Call → List ℕ → Call
after c log = call c.win c.p c.r c.cap log

pub takes_logs : (c : Call) (count : ℕ) → TakesLogs c count (checked c count)
unfolding checked
takes_logs c count =
    let h =
    general.takes_logs (trial (jobs_of c)) (asks c) count (λ log. judging (after c log)) (λ log. writes (after c log)) (λ log. grounds (after c log)) in
    record {
      settled = λ before b n l e. h.settled before b (by_rules (after c before) b n) l e;
      clash = λ before b n l j e. h.clash before b (by_rules (after c before) b n) l j e;
    }
