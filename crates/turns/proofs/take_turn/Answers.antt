-- `turns::take_turn` meets its contract: what the search found, the room, the record and the move, handed over for each answer.
use Prim.Native.Nat.{◌≤◌}
use native.Mathlib.Omega.{arith}
use mathlib.Core.Path.{refl, sym, ◌∙◌}
use Rattle.narrowing.specs.Windows.{win}
use Rattle.joblist.specs.Limits.{most_time}
use Rattle.timetable.specs.Table.{call}
use Rattle.searches.proofs.Answers.{found_some, found_none}
use Rattle.turns.specs.Moves.{Moves}
use Rattle.turns.proofs.Turns.{turn_time, turn_moves}
use Rattle.turns.proofs.take_turn.Goals as goal
use Rattle.turns.proofs.take_turn.Goals.{After-shift-old, Else-room-count}

-- a time is found and there is room for its record: the time is within the limit
in-time : (d : Else-room-count) → d.in-Some.t ≤ most_time
in-time d = turn_time _ _ _ _ _ d.args.log.now d.args.at _ d.in-Some.ensures d.requires.0 d.requires.1

-- its record is noted and the bound moved
moves : (d : After-shift-old)
    → let a = d.args in
    Moves (call (win a.est.now a.lct.now) a.dur.now a.dem.now a.cap a.log.now) a.at a.count d.in-Some.t (win d.shift-old.new.est d.shift-old.new.lct) d.note.new.log
moves d =
    turn_moves _ _ _ _ _ _ _ _ d.in-Some.ensures _ _ _
    (omega (arith, d.room.ensures, d.if-room-count.false)) d.shift-old.ensures.0 d.note.ensures

pub returns-then-room-count : goal.returns-then-room-count
returns-then-room-count c =
    let t = c.in-Some.t in
    (t, found_some _ t (sym c.in-Some.ensures), omega (arith, c.room.ensures), refl, refl)

pub note-requires : goal.note-requires
note-requires c =
    let p = c.requires in
    (p.1, in-time (goal.at.note-requires c).Else-room-count)

pub shift-old-requires : goal.shift-old-requires
shift-old-requires c =
    let p = c.requires in
    (p.1, omega (arith, p.0.good.sized.1.0, p.1), in-time (goal.at.shift-old-requires c).Else-room-count)

pub closed-requires : goal.closed-requires
closed-requires c =
    let p = c.requires in
    let k = c.shift-old.auto in
    (omega (arith, p.1, k), omega (arith, p.1, p.0.good.sized.1.0, k), omega (arith, p.1, p.0.good.sized.1.1.0))

pub returns-then-closed : goal.returns-then-closed
returns-then-closed c = (c.in-Some.t, moves (goal.at.returns-then-closed c).After-shift-old, sym c.closed.ensures ∙ c.if-closed.true)

pub returns-in_default : goal.returns-in_default
returns-in_default c = (found_none _ (sym c.in_default.ensures), refl, refl)

pub returns-else-closed : goal.returns-else-closed
returns-else-closed c = (c.in-Some.t, moves (goal.at.returns-else-closed c).After-shift-old, sym c.closed.ensures ∙ c.if-closed.false, c.shift-old.ensures.1)
