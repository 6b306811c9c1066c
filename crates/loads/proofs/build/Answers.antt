use native.Mathlib.Omega.{arith}
use Rattle.loads.proofs.Building.{building_start, ends_within, building_asks, building_step, building_pass}
use Rattle.loads.proofs.build.Goals as goal
use Rattle.loads.proofs.build.Goals.{then-r-gt0, else-r-gt0}

pub loop-k-init : goal.loop-k-init
loop-k-init c =
    let a = c.args in
    building_start a.est.now a.lct.now a.dur.now a.dem.now c.requires.0 c.requires.1 c.start-kept.ensures

pub overflow_sub-lct : goal.overflow_sub-lct
overflow_sub-lct c = omega (arith, ends_within c.loop-k.invariant c.loop-k-test.true)

pub grow-kept-requires : goal.grow-kept-requires
grow-kept-requires c = building_asks c.loop-k.invariant c.loop-k-test.true

pub loop-k-preserved : goal.loop-k-preserved
loop-k-preserved c =
    elim c.if-r-gt0.branch [
      | then-r-gt0 w ↦ rw (w.ts-is, w.ld-is, w.kept-is) (building_step c.loop-k.invariant c.loop-k-test.true w.grow-kept.ensures)
      | else-r-gt0 w ↦ rw (w.ts-is, w.ld-is, w.kept-is) (building_pass c.loop-k.invariant c.loop-k-test.true w.if-r-gt0.false)
    ]
