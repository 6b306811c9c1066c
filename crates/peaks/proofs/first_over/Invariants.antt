-- `peaks::first_over` meets its contract. The loop's invariant: piece i lies in the stretch, and every function kept is clear of the limit
-- before it (`Up`).
use Rattle.peaks.proofs.Walks.{Up}
use Rattle.peaks.proofs.first_over.Given as goal

abbrev pub invariant-loop-i : goal.invariant-loop-i
invariant-loop-i l = Up l.ts l.ld l.fn.kept.m l.limit l.a l.b l.i
