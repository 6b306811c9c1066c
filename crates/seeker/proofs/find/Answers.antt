use native.Mathlib.Omega.{arith}
use Rattle.headings.proofs.Marks.{line_mark_lem, next_falls}
use Rattle.seeker.proofs.Looking.{looking_none, looking_other, looking_next, looking_end}
use Rattle.seeker.proofs.find.Goals as goal
use Rattle.seeker.proofs.find.Goals.{in-Some+else-k-found, in_default}

pub returns-then-k-found : goal.returns-then-k-found
returns-then-k-found c =
    let q = c.in-Some.ensures in
    looking_other _ _ _ _ c.loop-at.invariant _ c.unspaced_at-from.result (line_mark_lem _ _ _ c.unspaced_at-from.ensures q.1) c.if-k-found.true

pub loop-at-smaller : goal.loop-at-smaller
loop-at-smaller c = next_falls _ _ _ c.loop-at-test.true c.next_line-at.ensures

pub loop-at-preserved : goal.loop-at-preserved
loop-at-preserved c =
    elim c.match-heading_at.branch [
      | in-Some+else-k-found w ↦
          let q = w.in-Some.ensures in
          let m = line_mark_lem _ _ _ c.unspaced_at-from.ensures q.1 in
          rw (w.places-is, w.found-is) (looking_next _ _ _ _ c.loop-at.invariant _ c.unspaced_at-from.result m _ _ (omega arith) w.if-k-found.false q.0 c.next_line-at.ensures)
      | in_default w ↦
          let m = line_mark_lem _ _ _ c.unspaced_at-from.ensures w.in_default.ensures in
          rw (w.places-is, w.found-is) (looking_none _ _ _ _ c.loop-at.invariant _ m c.next_line-at.ensures)
    ]

pub returns : goal.returns
returns c =
    rw c.then_some.ensures (looking_end _ _ _ _ c.loop-at.invariant c.loop-at-test.false)
