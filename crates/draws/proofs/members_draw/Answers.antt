use Prim.Native.Nat.{◌+◌}
use native.Mathlib.Omega.{arith}
use mathlib.Core.Path.{◌≡◌, sym, ap, ◌∙◌}
use lib.ListN.{length}
use Rattle.lists.specs.Lists.{◌!◌}
use Rattle.lists.proofs.Sums.{total-zero}
use Rattle.lists.specs.Sums.{total}
use Rattle.draws.proofs.Steps.{share_at, draw_more, draw_total, draw_most}
use Rattle.draws.proofs.members_draw.Goals as goal
use Rattle.draws.proofs.members_draw.Goals.{then-has, else-has}

pub loop-k-init : goal.loop-k-init
loop-k-init c = sym (total-zero (share_at c.args.dem.now c.set_of-set.result.now))

pub overflow_add-sum : goal.overflow_add-sum
overflow_add-sum c =
    let r = c.args.dem.now in
    let s = c.set_of-set.result.now in
    let k = c.loop-k.k in
    let d = c.requires in
    let share : share_at r s k ≡ r ! k = rw (sym c.has.ensures ∙ c.if-has.true) in
    omega (arith, share, c.loop-k.invariant, draw_more r s k, draw_most r s (k + 1) d, d.few)

pub loop-k-preserved : goal.loop-k-preserved
loop-k-preserved c =
    let r = c.args.dem.now in
    let s = c.set_of-set.result.now in
    let k = c.loop-k.k in
    elim c.if-has.branch [
      | then-has w ↦
          let share : share_at r s k ≡ r ! k = rw (sym c.has.ensures ∙ w.if-has.true) in
          omega (arith, share, w.sum-is, c.loop-k.invariant, draw_more r s k)
      | else-has w ↦
          let share : share_at r s k ≡ 0 = rw (sym c.has.ensures ∙ w.if-has.false) in
          omega (arith, share, w.sum-is, c.loop-k.invariant, draw_more r s k)
    ]

pub returns : goal.returns
returns c =
    let r = c.args.dem.now in
    let s = c.set_of-set.result.now in
    let e : c.loop-k.k ≡ length r = omega arith in
    c.loop-k.invariant ∙ ap (total (share_at r s)) e ∙ draw_total r s (length r) ∙ rw c.set_of-set.ensures
