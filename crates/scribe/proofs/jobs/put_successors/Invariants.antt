-- `scribe::jobs::put_successors` puts the successors up to the end of the line. The invariant: what is left of the text is that of the successors from
-- place i on, and the buffer is the same one.
use mathlib.Core.Path.{◌≡◌}
use Rattle.scribe.specs.Says.{rest_of}
use Rattle.scribe.proofs.Puts.{Going}
use Rattle.scribe.proofs.Steps.{numbered}
use Rattle.scribe.proofs.jobs.put_successors.Given as goal

abbrev pub invariant-loop-i : goal.invariant-loop-i
invariant-loop-i g l =
    record {
      put : Going g.S.Sink.dry (g.S.Sink.held l.initial.sink).place (rest_of (numbered l.own 0)) (g.S.Sink.held l.initial.sink).buffer (g.S.Sink.held l.sink).buffer (g.S.Sink.held l.sink).place (rest_of (numbered l.own l.i));
      same : (g.S.Sink.held l.sink).lent ≡ (g.S.Sink.held l.initial.sink).lent;
    }
