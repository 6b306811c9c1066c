use Prim.Native.Nat.{ℕ, ◌*◌, ◌-◌, ◌≤◌, ◌<◌}
use native.Mathlib.Omega.{arith}
use mathlib.Core.Path.{◌≡◌, refl, sym, subst}
use lib.ListN.{length}
use Rattle.windows.specs.Sides.{side_is}
use Rattle.narrowing.specs.Windows.{Win}
use Rattle.joblist.specs.Limits.{most_jobs, most_time}
use Rattle.mirrors.specs.Back.{told}
use Rattle.mirrors.proofs.Back.{back_length, back_most}
use Rattle.places.specs.declared.Place.{Place}
use Rattle.places.proofs.Going.{weight, weight_move, weight_rest}
use Rattle.headturns.specs.declared.Turn.{Turn}
use Rattle.headturns.specs.Turns.{HeadLists, head_lists, TurnSays}
use Rattle.sequencing.proofs.Reached.{quota, quota_small, move_left, reached_start, reached_end, reached_rest, reached_closed, reached_moved}
use Rattle.sequencing.proofs.take_turns.Goals as goal
use Rattle.sequencing.proofs.take_turns.Goals.{After-take_turn-turn as Turned}

-- ---- a turn: the windows at first, what it leaves, and what it says by its answer

abbrev W : Turned → Win
W d = told d.args.starts.now d.args.ends.now

abbrev then : Turned → HeadLists
then d = let x = d.take_turn-turn.new in head_lists x.starts x.ends x.fore x.rear

says : (d : Turned) (x : Turn) → d.take_turn-turn.result ≡ x
    → let q = d.loop-at in TurnSays (length d.args.starts.now) d.args.dur.now (head_lists q.starts q.ends q.fore q.rear) q.at.job (side_is q.at.side) (then d) x
says d x e =
    let q = d.loop-at in
    subst (λ (n : ℕ). TurnSays n d.args.dur.now (head_lists q.starts q.ends q.fore q.rear) q.at.job (side_is q.at.side) (then d) x)
    q.invariant.1.both.ahead.lent.starts_long (rw e at d.take_turn-turn.ensures)

-- where a side moves, or would, the count is below the quota, and that is small
moves : (d : Turned) → d.take_turn-turn.result ≡ Turn.Moved → d.loop-at.count < quota (W d) d.args.dur.now
moves d e = let t = says d Turn.Moved e in move_left _ _ _ _ _ d.loop-at.invariant.1 d.loop-at-test.true (then d) t.0 t.1

would : (d : Turned) → d.take_turn-turn.result ≡ Turn.Closed → d.loop-at.count < quota (W d) d.args.dur.now
would d e = let t = says d Turn.Closed e in move_left _ _ _ _ _ d.loop-at.invariant.1 d.loop-at-test.true (then d) t.0 t.1

count_fits : (d : Turned) → d.loop-at.count < quota (W d) d.args.dur.now → d.loop-at.count ≤ most_jobs * most_time
count_fits d h = omega (arith, quota_small (W d) d.args.dur.now d.requires.0.ahead.lent.few (back_most d.args.ends.now))

-- ---- the goals

pub loop-at-init : goal.loop-at-init
loop-at-init c =
    let a = c.args in
    let l = c.requires.0.ahead.lent in (
      refl,
      rw c.first-at.ensures (reached_start (length a.starts.now) a.dur.now (head_lists a.starts.now a.ends.now a.fore.now a.rear.now) refl
          (record { early = omega arith; late = omega (arith, back_length a.ends.now, l.ends_long) }) c.requires.0 c.requires.1),
    )

pub take_turn-turn-requires : goal.take_turn-turn-requires
take_turn-turn-requires c =
    let i = c.loop-at.invariant.1.both in
    let e = i.ahead.lent.starts_long in
    (rw e i, omega (arith, e, c.loop-at-test.true))

pub loop-at-smaller-in-Rests : goal.loop-at-smaller-in-Rests
loop-at-smaller-in-Rests c =
    let q = c.loop-at in
    let n = length c.args.starts.now in
    let left = quota (told c.args.starts.now c.args.ends.now) c.args.dur.now - q.count in
    subst (λ (x : Place). weight n x left < weight n q.at left) (sym c.onward-at.ensures) (weight_rest n q.at left c.loop-at-test.true)

pub loop-at-preserved-in-Rests : goal.loop-at-preserved-in-Rests
loop-at-preserved-in-Rests c =
    let d = (goal.at.loop-at-preserved-in-Rests c).After-take_turn-turn in
    (refl, rw c.onward-at.ensures (reached_rest _ _ _ _ _ c.loop-at.invariant.1 c.loop-at-test.true (then d) (says d Turn.Rests c.in-Rests.is)))

pub overflow_add-count : goal.overflow_add-count
overflow_add-count c = let d = (goal.at.overflow_add-count c).After-take_turn-turn in omega (arith, count_fits d (moves d c.in-Moved.is))

pub loop-at-smaller : goal.loop-at-smaller
loop-at-smaller c =
    let d = (goal.at.loop-at-smaller c).After-take_turn-turn in
    weight_move (length c.args.starts.now) c.loop-at.at (quota (W d) c.args.dur.now) c.loop-at.count (moves d c.in-Moved.is)

pub loop-at-preserved : goal.loop-at-preserved
loop-at-preserved c =
    let d = (goal.at.loop-at-preserved c).After-take_turn-turn in
    (refl, reached_moved _ _ _ _ _ c.loop-at.invariant.1 c.loop-at-test.true (then d) (says d Turn.Moved c.in-Moved.is))

pub overflow_add-result : goal.overflow_add-result
overflow_add-result c = let d = (goal.at.overflow_add-result c).After-take_turn-turn in omega (arith, count_fits d (would d c.in-Closed.is))

pub returns-in-Closed : goal.returns-in-Closed
returns-in-Closed c =
    let d = (goal.at.returns-in-Closed c).After-take_turn-turn in
    let i = c.loop-at.invariant.1 in
    let t = says d Turn.Closed c.in-Closed.is in
    record { works = reached_closed _ _ _ _ _ i c.loop-at-test.true (then d) _ t; both = rw t.3 i.both }

pub returns : goal.returns
returns c =
    let i = c.loop-at.invariant in
    record { works = reached_end _ _ _ _ _ i.1 (omega arith); both = i.1.both }
