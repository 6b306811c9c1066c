-- `scribe::jobs::put_job` puts a job's line in four parts: duration, demand, how many successors, and these.
use native.Mathlib.Omega.{arith}
use mathlib.Core.Path.{◌∙◌}
use Rattle.scribe.proofs.Puts.{room_same, first_room, second_room, third_room, fourth_room, all_put}
use Rattle.scribe.proofs.Steps.{number_same, byte_same, job_parts}
use Rattle.scribe.proofs.jobs.put_job.Goals as goal

pub put-requires : goal.put-requires
put-requires g c =
    let p = c.requires in
    room_same (first_room (job_parts _ _ _) p.1) (omega arith) (number_same (omega arith) (omega arith))

pub put-requires-2 : goal.put-requires-2
put-requires-2 g c =
    let p = c.requires in
    room_same (second_room (job_parts _ _ _) p.1 c.put.ensures.put) (omega arith) (number_same (omega arith) (omega arith))

pub put-requires-3 : goal.put-requires-3
put-requires-3 g c =
    let p = c.requires in
    room_same (third_room (job_parts _ _ _) p.1 c.put.ensures.put c.put-2.ensures.put) (omega arith)
    (number_same (omega arith) (byte_same 0 _ c.mark_of.ensures (omega arith) (omega arith)))

pub put_successors-requires : goal.put_successors-requires
put_successors-requires g c =
    let p = c.requires in
    let counted = rw c.mark_of.ensures.byte at c.put-3.ensures.put in
    (p.0, fourth_room (job_parts _ _ _) p.1 c.put.ensures.put c.put-2.ensures.put counted)

pub returns : goal.returns
returns g c =
    let p = c.requires in
    let counted = rw c.mark_of.ensures.byte at c.put-3.ensures.put in
    record {
      put = all_put (job_parts _ _ _) p.1 c.put.ensures.put c.put-2.ensures.put counted c.put_successors.ensures.put;
      same = c.put_successors.ensures.same ∙ c.put-3.ensures.same ∙ c.put-2.ensures.same ∙ c.put.ensures.same;
    }
