-- `logs::show_record` meets its contract. Where k is below the room the record's words lie within the log, so nothing wraps.
use native.Mathlib.Omega.{arith}
use mathlib.Core.Path.{sym}
use Rattle.journal.proofs.Records.{room_words, record_part, record_out}
use Rattle.logs.proofs.show_record.Goals as goal

pub overflow_mul-from : goal.overflow_mul-from
overflow_mul-from c =
    let a = c.args in
    omega (arith, room_words a.log.now a.k (omega (arith, c.room.ensures, c.if-k-room.true)))

pub overflow_add-result : goal.overflow_add-result
overflow_add-result c =
    let a = c.args in
    omega (arith, room_words a.log.now a.k (omega (arith, c.room.ensures, c.if-k-room.true)))

pub offset_bounds-log-from : goal.offset_bounds-log-from
offset_bounds-log-from c =
    let a = c.args in
    omega (arith, room_words a.log.now a.k (omega (arith, c.room.ensures, c.if-k-room.true)))

pub slice_bounds-result-end : goal.slice_bounds-result-end
slice_bounds-result-end c =
    let a = c.args in
    omega (arith, room_words a.log.now a.k (omega (arith, c.room.ensures, c.if-k-room.true)))

pub returns-then-k-room : goal.returns-then-k-room
returns-then-k-room c =
    let a = c.args in
    record_part a.log.now a.k (omega (arith, c.room.ensures, c.if-k-room.true))

pub returns-else-k-room : goal.returns-else-k-room
returns-else-k-room c =
    let a = c.args in
    sym (record_out a.log.now a.k (omega (arith, c.room.ensures, c.if-k-room.false)))
