-- `profile::kept::grow` meets its contract: two points cut and the levels between them lifted raise each function that is kept.
use native.Mathlib.Omega.{arith}
use Rattle.profile.proofs.Raised.{before_to, low_all, raises}
use Rattle.profile.proofs.Keeping.{grows}
use Rattle.profile.proofs.kept.grow.Goals as goal

pub lift-top-requires : goal.lift-top-requires
lift-top-requires c =
    let C = c.cut-from.ensures in
    let D = c.cut-to.ensures in
    let h = c.if-hi-lo.false in
    let p = c.requires in
    (omega (arith, before_to C h p.near D), omega (arith, D.listed, D.points.grid.inside, D.points.beside), low_all C h p.near D _ p.low, p.small)

pub returns : goal.returns
returns c =
    let l = c.lift-top.ensures in
    grows _ _ _ _ _ _ _ _ _ (raises c.cut-from.ensures c.if-hi-lo.false c.requires.near c.cut-to.ensures l.0) l.1
