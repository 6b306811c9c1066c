-- `headturns::take_turn` meets its contract: side 0 by the windows as they are told, side 1 by them told the other way round.
use native.Mathlib.Omega.{arith}
use lib.ListN.{length}
use Rattle.headturns.specs.Turns.{head_lists}
use Rattle.headturns.proofs.Sides.{turn_early, turn_late}
use Rattle.headturns.proofs.take_turn.Goals as goal

pub returns-in-Start : goal.returns-in-Start
returns-in-Start c =
    let s = c.args in
    let p = c.requires in
    rw c.in-Start.is
    (turn_early (length s.starts.now) s.dur.now (head_lists s.starts.now s.ends.now s.fore.now s.rear.now) p.0 s.job p.1 _ _ c.turn_on.result c.turn_on.ensures)

pub turn_on-requires-in-End : goal.turn_on-requires-in-End
turn_on-requires-in-End c =
    let p = c.requires in
    let e = p.0.behind.lent.starts_long in
    (rw e p.0.behind, omega (arith, e, p.1))

pub returns-in-End : goal.returns-in-End
returns-in-End c =
    let s = c.args in
    let p = c.requires in
    rw c.in-End.is
    (turn_late (length s.starts.now) s.dur.now (head_lists s.starts.now s.ends.now s.fore.now s.rear.now) p.0 s.job p.1 _ _ c.turn_on-in-End.result c.turn_on-in-End.ensures)
