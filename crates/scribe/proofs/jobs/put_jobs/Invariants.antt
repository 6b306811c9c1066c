-- `scribe::jobs::put_jobs` puts a line for each job. The invariant: the pairs before place i are of jobs below j, those behind it of the others, what
-- is left of the text are the lines from job j on, and the buffer is the same one.
use mathlib.Core.Path.{◌≡◌}
use lib.ListN.{drop}
use Rattle.chains.specs.Listed.{paired}
use Rattle.projects.specs.Form.{job_lines}
use Rattle.projects.specs.Made.{rows_from}
use Rattle.scribe.proofs.Puts.{Going}
use Rattle.scribe.proofs.Passing.{Passed}
use Rattle.scribe.proofs.jobs.put_jobs.Given as goal

abbrev pub invariant-loop-j : goal.invariant-loop-j
invariant-loop-j g l =
    record {
      passed : Passed l.jobs l.j l.i;
      put : Going g.S.Sink.dry (g.S.Sink.held l.initial.sink).place (job_lines (rows_from 0 l.dur l.dem (paired l.jobs l.successors))) (g.S.Sink.held l.initial.sink).buffer (g.S.Sink.held l.sink).buffer (g.S.Sink.held l.sink).place (job_lines (rows_from l.j (drop l.j l.dur) (drop l.j l.dem) (paired l.jobs l.successors)));
      same : (g.S.Sink.held l.sink).lent ≡ (g.S.Sink.held l.initial.sink).lent;
    }
