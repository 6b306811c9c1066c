-- `peaks::last_over` meets its contract. The loop's invariant: the piece before i lies in the stretch, and every function kept is clear of the limit behind
-- it (`Down`).
use Prim.Native.Nat.{◌≤◌, ◌-◌}
use Rattle.peaks.proofs.Walks.{Down}
use Rattle.peaks.proofs.last_over.Given as goal

abbrev pub invariant-loop-i : goal.invariant-loop-i
invariant-loop-i l = (1 ≤ l.i) × Down l.ts l.ld l.fn.kept.m l.limit l.a l.b (l.i - 1)
