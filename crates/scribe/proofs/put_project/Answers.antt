-- `scribe::put_project` puts the whole text in four parts: the two counts, the capacity, and the lines of the jobs.
use Prim.Native.Nat.{◌<◌}
use native.Mathlib.Omega.{arith}
use mathlib.Core.Path.{◌∙◌}
use Rattle.scanner.specs.Scan.{held}
use Rattle.scribe.proofs.Puts.{room_same, first_room, second_room, third_room, fourth_room, all_put}
use Rattle.scribe.proofs.Steps.{number_same}
use Rattle.scribe.proofs.Counts.{write_parts, whole_room, put_whole}
use Rattle.scribe.proofs.put_project.Goals as goal

-- `whole_room`: there is room for the whole text, and it is not too long to be counted.
pub put-requires : goal.put-requires
put-requires g c =
    let p = c.args.project.now in
    let cap : p.cap < held = omega arith in
    rw c.requires.start (room_same (first_room (write_parts _ p.ready) (whole_room _ p.ready cap p.words.0 p.words.1 c.requires.successors_in_bounds)) (omega arith) (number_same (omega arith) (omega arith)))

pub put-requires-2 : goal.put-requires-2
put-requires-2 g c =
    let p = c.args.project.now in
    let cap : p.cap < held = omega arith in
    room_same (second_room (write_parts _ p.ready) (whole_room _ p.ready cap p.words.0 p.words.1 c.requires.successors_in_bounds) (rw c.requires.start at c.put.ensures.put)) (omega arith) (number_same (omega arith) (omega arith))

pub put-requires-3 : goal.put-requires-3
put-requires-3 g c =
    let p = c.args.project.now in
    let cap : p.cap < held = omega arith in
    room_same (third_room (write_parts _ p.ready) (whole_room _ p.ready cap p.words.0 p.words.1 c.requires.successors_in_bounds) (rw c.requires.start at c.put.ensures.put) c.put-2.ensures.put) (omega arith) (number_same (omega arith) (omega arith))

pub put_jobs-requires : goal.put_jobs-requires
put_jobs-requires g c =
    let p = c.args.project.now in
    let cap : p.cap < held = omega arith in
    fourth_room (write_parts _ p.ready) (whole_room _ p.ready cap p.words.0 p.words.1 c.requires.successors_in_bounds) (rw c.requires.start at c.put.ensures.put) c.put-2.ensures.put c.put-3.ensures.put

pub returns : goal.returns
returns g c =
    let p = c.args.project.now in
    let cap : p.cap < held = omega arith in
    record {
      ran = put_whole (all_put (write_parts _ p.ready) (whole_room _ p.ready cap p.words.0 p.words.1 c.requires.successors_in_bounds) (rw c.requires.start at c.put.ensures.put) c.put-2.ensures.put c.put-3.ensures.put c.put_jobs.ensures.put);
      same = c.put_jobs.ensures.same ∙ c.put-3.ensures.same ∙ c.put-2.ensures.same ∙ c.put.ensures.same;
    }
