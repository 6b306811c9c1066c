-- A call is admitted exactly where no test refuses it; the lists of a good one hold all its jobs.
use native.Mathlib.Omega.{arith}
use mathlib.Core.Path.{◌≡◌}
use Rattle.narrowing.proofs.Moves.{Whole}
use Rattle.promises.proofs.Calls as general
use Rattle.timetable.specs.Table.{Call, jobs_of, asks, Good, Admitted, refusal_of}

pub admitted_call : (c : Call) → refusal_of c ≡ 0 → Admitted c
unfolding refusal_of
admitted_call c h = general.admitted_call (asks c) h

pub call_admitted : (c : Call) → Admitted c → refusal_of c ≡ 0
unfolding refusal_of
call_admitted c g = general.call_admitted (asks c) g

pub whole : (c : Call) → Good c → Whole (jobs_of c).n c.win
whole c g = record { early = omega arith; late = omega (arith, g.sized.1) }
