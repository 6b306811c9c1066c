use native.Mathlib.Omega.{arith}
use mathlib.Core.Path.{refl, ◌∙◌}
use Rattle.scribe.proofs.Puts.{room_same, going_start, going_room, going_step, going_end}
use Rattle.scribe.proofs.Steps.{job_same}
use Rattle.scribe.proofs.Passing.{passed_start, passed_step, own, lines_step, lines_end}
use Rattle.scribe.proofs.jobs.put_jobs.Goals as goal

pub loop-j-init : goal.loop-j-init
loop-j-init g c = record { passed = passed_start _; put = going_start _ _ _ _; same = refl }

pub overflow_cast-j : goal.overflow_cast-j
overflow_cast-j g c = omega (arith, c.args.project.now.ready.few, c.loop-j-test.true)

pub run_end-end-requires : goal.run_end-end-requires
run_end-end-requires g c = c.loop-j.invariant.passed.within

pub bounds-dem-j : goal.bounds-dem-j
bounds-dem-j g c = omega (arith, c.args.project.now.ready.demands, c.loop-j-test.true)

pub put_job-requires : goal.put_job-requires
put_job-requires g c =
    let l = c.loop-j.invariant in
    let line = lines_step c.args.project.now.ready l.passed c.run_end-end.ensures c.loop-j-test.true in
    (own c.args.project.now.ready l.passed c.run_end-end.ensures, room_same (going_room _ _ line c.requires l.put) (omega arith) (job_same _ (omega arith) (omega arith)))

pub loop-j-preserved : goal.loop-j-preserved
loop-j-preserved g c =
    let l = c.loop-j.invariant in
    let line = lines_step c.args.project.now.ready l.passed c.run_end-end.ensures c.loop-j-test.true in
    record {
      passed = passed_step c.args.project.now.ready l.passed c.run_end-end.ensures;
      put = going_step _ _ line c.requires l.put c.put_job.ensures.put;
      same = c.put_job.ensures.same ∙ l.same;
    }

pub returns : goal.returns
returns g c = record { put = going_end (lines_end _ _ _ _ c.loop-j-test.false) c.loop-j.invariant.put; same = c.loop-j.invariant.same }
