use Prim.Native.Nat.{ℕ, ◌+◌, ◌-◌, ◌<◌}
use native.Mathlib.Omega.{arith}
use mathlib.Core.Path.{◌≡◌, refl, sym, subst, ◌∙◌}
use mathlib.Core.Bool.{true}
use mathlib.Core.List.{List}
use borrow.Author.Rules.{rules}
use lib.ListN.{length}
use Rattle.narrowing.specs.Windows.{Win, win}
use Rattle.journal.specs.Journal.{room_of}
use Rattle.timetable.specs.Table.{Call, call}
use Rattle.places.specs.declared.Place.{Place}
use Rattle.turns.specs.declared.Turn.{Turn}
use Rattle.places.specs.Places.{place}
use Rattle.turns.specs.Moves.{TurnSays}
use Rattle.places.proofs.Going.{weight, weight_move, weight_rest}
use Rattle.rounds.proofs.Reached.{on, Reached, size, moves_room, moves_few, reached_start, reached_end, reached_rest, reached_full, reached_closed, reached_moved}
use Rattle.rounds.proofs.Follows.{workable_free, follow_ready}
use Rattle.rounds.proofs.work.Goals as goal
use Rattle.rounds.proofs.work.Goals.{After-take_turn}

-- ---- after a turn: where it began a job is left; the call, and what the turn leaves of its windows and its log

abbrev Turned : Type 0
Turned = After-take_turn

job-left : (d : Turned) → d.loop-at.at.job < length d.args.est.now
job-left d = d.loop-at-test.true

abbrev asks : Turned → Call
asks d = let a = d.args in call (win a.est.now a.lct.now) a.dur.now a.dem.now a.cap a.log.now

abbrev here : Turned → Call
here d = let q = d.loop-at in on (asks d) (win q.est q.lct) q.log

abbrev winThen : Turned → Win
winThen d = win d.take_turn.new.est d.take_turn.new.lct

abbrev logThen : Turned → List ℕ
logThen d = d.take_turn.new.log

-- ---- a turn, by its answer; a move leads to another state

says : (d : Turned) (x : Turn) → d.take_turn.result ≡ x → TurnSays (here d) d.loop-at.at d.loop-at.count (winThen d) (logThen d) x
says d x e = rw e at d.take_turn.ensures

moved_on : (d : Turned) (old : ℕ) → d.take_turn.result ≡ Turn.Moved old
    → let q = d.loop-at in Reached (asks d) (winThen d) (logThen d) (place q.at.job q.at.side true) (q.count + 1)
moved_on d old e = reached_moved _ _ _ _ _ d.loop-at.invariant.1 (job-left d) _ _ old (says d (Turn.Moved old) e)

-- ---- the goals

pub build-kept-requires : goal.build-kept-requires
build-kept-requires c = (workable_free c.requires, search rules, search rules)

pub loop-at-init : goal.loop-at-init
loop-at-init c = (refl, rw c.first-at.ensures (reached_start _ c.requires), c.build-kept.ensures.loaded, refl)

pub take_turn-requires : goal.take_turn-requires
take_turn-requires c =
    let i = c.loop-at.invariant in
    (i.1.workable, omega (arith, size _ _ _ _ _ i.1), i.2)

pub loop-at-smaller-in-Rests : goal.loop-at-smaller-in-Rests
loop-at-smaller-in-Rests c =
    let q = c.loop-at in
    let n = length c.args.est.now in
    let left = room_of c.args.log.now - q.count in
    subst (λ (x : Place). weight n x left < weight n q.at left) (sym c.onward-at.ensures) (weight_rest n q.at left (job-left (goal.at.loop-at-smaller-in-Rests c).After-take_turn))

pub loop-at-preserved-in-Rests : goal.loop-at-preserved-in-Rests
loop-at-preserved-in-Rests c =
    let d = (goal.at.loop-at-preserved-in-Rests c).After-take_turn in
    let i = c.loop-at.invariant in
    let t = says d Turn.Rests c.in-Rests.is in
    (refl, rw c.onward-at.ensures (reached_rest _ _ _ _ _ i.1 (job-left d) _ _ t), rw t.1 i.2, i.3)

pub follow-kept-requires : goal.follow-kept-requires
follow-kept-requires c =
    let d = (goal.at.follow-kept-requires c).After-take_turn in
    let q = c.loop-at in
    follow_ready (here d) q.at q.count _ (winThen d) (logThen d) (says d _ c.in-Moved.is) q.invariant.1.workable (omega (arith, size _ _ _ _ _ q.invariant.1, job-left d))
    (moved_on d _ c.in-Moved.is).workable q.invariant.2

pub overflow_add-count : goal.overflow_add-count
overflow_add-count c =
    let d = (goal.at.overflow_add-count c).After-take_turn in
    let t = says d _ c.in-Moved.is in
    omega (arith, moves_few _ _ _ _ _ c.loop-at.invariant.1 (job-left d) _ _ t.0 t.1, c.well_formed)

pub loop-at-smaller : goal.loop-at-smaller
loop-at-smaller c =
    let d = (goal.at.loop-at-smaller c).After-take_turn in
    let q = c.loop-at in
    let a = c.args in
    let t = says d _ c.in-Moved.is in
    weight_move (length a.est.now) q.at (room_of a.log.now) q.count (moves_room _ _ _ _ _ q.invariant.1 (job-left d) _ _ t.0 t.1)

pub loop-at-preserved : goal.loop-at-preserved
loop-at-preserved c =
    let f = c.follow-kept.ensures in
    (refl, moved_on (goal.at.loop-at-preserved c).After-take_turn _ c.in-Moved.is, f.loaded, f.size ∙ c.loop-at.invariant.3)

pub overflow_add-result : goal.overflow_add-result
overflow_add-result c =
    let d = (goal.at.overflow_add-result c).After-take_turn in
    let t = says d Turn.Closed c.in-Closed.is in
    omega (arith, moves_few _ _ _ _ _ c.loop-at.invariant.1 (job-left d) _ _ t.0 t.1, c.well_formed)

pub returns-in-Closed : goal.returns-in-Closed
returns-in-Closed c =
    let d = (goal.at.returns-in-Closed c).After-take_turn in
    reached_closed _ _ _ _ _ c.loop-at.invariant.1 (job-left d) _ _ (says d Turn.Closed c.in-Closed.is)

pub returns-in-Full : goal.returns-in-Full
returns-in-Full c =
    let d = (goal.at.returns-in-Full c).After-take_turn in
    rw c.from.ensures (reached_full _ _ _ _ _ c.loop-at.invariant.1 (job-left d) _ _ (says d Turn.Full c.in-Full.is))

pub returns : goal.returns
returns c = reached_end _ _ _ _ _ c.loop-at.invariant.1 (omega arith)
