-- A log that the checker takes to a clash: its records are good, and the job is one of the list.
use Prim.Native.Nat.{ℕ, zero, suc, ◌<◌}
use native.Mathlib.Omega.{arith}
use Rattle.joblist.specs.Limits.{jobs}
use Rattle.timetable.specs.Table.{Call, jobs_of, asks}
use Rattle.verdicts.proofs.Meaning as general
use Rattle.checks.specs.Replay.{trial}
use Rattle.checks.specs.Fate.{Takes, Shut}
use Rattle.checks.proofs.Sound.{judging}

pub shut_takes : (c : Call) (count j : ℕ) → Shut c count j → (i : ℕ) → i < count → Takes c i
shut_takes c = general.shut_takes (trial (jobs_of c)) (asks c) (judging c)

pub shut_in : (c : Call) (count j : ℕ) → Shut c count j → j < jobs c.win
shut_in c zero j x = x.listed
shut_in c (suc h) j x = omega (arith, x.1, x.0.takes.passes.in_range.job)
