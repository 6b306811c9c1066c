use mathlib.Core.Path.{◌≡◌, ◌∙◌}
use lib.Dec.{eqb}
use borrow.Author.Tests.{eq-eqb, ne_eqb}
use Rattle.std.proofs.lemmas.Result.{err_from_is_err_and}
use Rattle.lists.specs.Tests.{pick}
use Rattle.rowheads.proofs.Numbers.{picking_start, picking_step, picking_bad, picking_end}
use Rattle.rowheads.proofs.read_numbers.Goals as goal
use Rattle.rowheads.proofs.read_numbers.Goals.{then-i-res, else-i-res}

pub loop-i-init : goal.loop-i-init
loop-i-init c = picking_start _ _ _ _ _

pub returns-in_err-got : goal.returns-in_err-got
returns-in_err-got c =
    let p = err_from_is_err_and c.from_residual.result c.from_residual.ensures.1 in
    rw (p.1, p.2) (picking_bad _ _ _ _ _ _ _ _ c.loop-i.invariant _ c.loop-i-test.true c.in_err-got.ensures)

pub loop-i-preserved : goal.loop-i-preserved
loop-i-preserved c =
    let e : c.if-i-res.picked ≡ pick (eqb c.loop-i.i c.args.res) c.in_ok-got.got.value c.loop-i.picked =
    elim c.if-i-res.branch [ then-i-res w ↦ w.picked-is ∙ rw (eq-eqb _ _ w.if-i-res.true) | else-i-res w ↦ w.picked-is ∙ rw (ne_eqb _ _ w.if-i-res.false) ] in
    picking_step _ _ _ _ _ _ _ _ c.loop-i.invariant _ _ _ c.loop-i-test.true c.in_ok-got.ensures e

pub returns : goal.returns
returns c = picking_end _ _ _ _ _ _ _ _ c.loop-i.invariant c.loop-i-test.false
