use Prim.Native.Nat.{◌<◌}
use native.Mathlib.Omega.{arith}
use mathlib.Core.Path.{sym, ◌∙◌}
use lib.ListN.{length, take}
use Rattle.std.proofs.lemmas.List.{get_or-take}
use Rattle.lists.specs.Lists.{◌!◌}
use Rattle.heads.specs.Search.{firsts}
use Rattle.mirrors.specs.Back.{told}
use Rattle.ahead.proofs.Passes.{places_all, sweep_on, sweep_zero, sweep_under, bound_is}
use Rattle.ahead.proofs.Lent.bound_of.Goals as goal
use Rattle.ahead.proofs.Lent.bound_of.Goals.{then-comes_first, else-comes_first}

pub loop-k-init : goal.loop-k-init
loop-k-init c = sym (sweep_zero _ _ _ _)

pub advance-done-requires : goal.advance-done-requires
advance-done-requires c =
    let l = c.loop-k in
    let r = c.args.self.ready.lent in
    let s = c.args.self in
    let k = take (length s.starts.now) s.order.now ! l.k-index in
    (omega (arith, l.invariant, r.few, sweep_under s.starts.now s.dur.now (firsts s.dur.now (told s.starts.now s.ends.now) c.args.job) s.order.now r.starts_most r.p_most l.k-index), r.starts_most k, r.p_most k)

pub loop-k-preserved : goal.loop-k-preserved
loop-k-preserved c =
    let s = c.args.self in
    let l = c.loop-k in
    let b : l.k-index < length s.starts.now = omega (arith, places_all c.args.self.ready) in
    let k = get_or-take (length s.starts.now) s.order.now l.k-index 0 b in
    let on = sweep_on s.starts.now s.ends.now s.dur.now s.order.now c.args.job l.k-index l.done c.args.self.ready b c.requires.1 l.invariant _ (rw k at c.comes_first.ensures) in
    elim c.if-comes_first.branch [
      | then-comes_first w ↦ w.done-is ∙ (rw (w.advance-done.ensures, k) (rw w.if-comes_first.true at on))
      | else-comes_first w ↦ w.done-is ∙ (rw w.if-comes_first.false at on)
    ]

pub returns : goal.returns
returns c = c.loop-k.invariant ∙ bound_is _ _ _ _ _ _ c.args.self.ready (omega (arith, places_all c.args.self.ready))
