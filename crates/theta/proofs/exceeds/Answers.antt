-- `theta::exceeds` meets its contract: the signed sum does not wrap.
use native.Mathlib.Omega.{arith}
use mir.Facts.{to_z-of_z, to_z_pos}
use mir.Syntax.{w64}
use mir.Val.{SFits}
use lib.IntN.{pos, ◌+ℤ◌}
use Rattle.lists.proofs.Signed.{mag_add}
use Rattle.theta.proofs.exceeds.Goals as goal

pub overflow_add-result : goal.overflow_add-result
overflow_add-result c =
    let a = c.args in
    rw (to_z-of_z c.ranges.end, c.from-2.ensures, to_z_pos w64 {n = a.tail} (omega arith)) record { sfits = omega (arith, mag_add a.end a.tail) }

pub returns : goal.returns
returns c =
    let a = c.args in
    let k : SFits w64 (a.end +ℤ pos a.tail) = record { sfits = omega (arith, mag_add a.end a.tail) } in
    rw (to_z-of_z c.ranges.end, c.from.ensures, c.from-2.ensures, to_z_pos w64 {n = a.tail} (omega arith), to_z-of_z k, to_z_pos w64 {n = a.b} (omega arith))
