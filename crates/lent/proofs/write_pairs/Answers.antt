use Prim.Native.Nat.{◌<◌, ◌+◌}
use native.Mathlib.Omega.{arith}
use borrow.Author.Rules.{rules}
use mathlib.Core.Path.{◌≡◌}
use mathlib.Core.Logic.{inl}
use lib.ListN.{length, drop, length-drop}
use Rattle.std.specs.Prelude.{Some}
use Rattle.std.specs.Iterator.Adapters.{enumerate_source, enumerate_count}
use Rattle.passes.specs.Rounds.{Drawn}
use Rattle.precedence.specs.Pairs.{Pulled, coming, pulled_draws}
use Rattle.lent.proofs.Filling.{writing_start, writing_step, writing_end, more_left, tokens_few}
use Rattle.lent.proofs.write_pairs.Goals as goal
use Rattle.lent.proofs.write_pairs.Goals.{In-Some}

-- ---- behind a pair that came: the pair, its place, and the room for it

came : (e : In-Some) → let s = e.loop-i.i-iterator in let t = e.next.new.self in let i = e.in-Some.i in
    Pulled (enumerate_source s) (Some (e.in-Some.a, e.in-Some.b)) (enumerate_source t) × (i ≡ enumerate_count s) × (enumerate_count t ≡ enumerate_count s + 1) × (i + 1 < 18446744073709551616)
came e = rw e.in-Some.is at e.next.ensures.steps

drawn : (e : In-Some) → Drawn (coming (enumerate_source e.loop-i.i-iterator)) (Some (e.in-Some.a, e.in-Some.b)) (coming (enumerate_source e.next.new.self))
drawn e = pulled_draws _ _ _ (came e).0

room : (e : In-Some) → let l = e.loop-i in (e.in-Some.i < length l.js) × (e.in-Some.i < length l.ss)
room e =
    let g = e.loop-i.invariant.2 in
    let r = e.requires in
    let m = more_left _ _ _ _ _ _ _ _ g _ _ (drawn e) r.ps r.end r.come in
    let n = (came e).1 in
    (omega (arith, m, n, r.jobs, g.long_js), omega (arith, m, n, r.successors, g.long_ss))

pub loop-i-init : goal.loop-i-init
loop-i-init c =
    let p = c.args.pairs in
    let few = tokens_few (drop p.walk.at p.text.now) in
    let e = c.enumerate-i-items.ensures in
    rw (c.into_iter-i-iterator.ensures.into_iter_gives, e.source, e.count) ((tt, tt, inl (omega (arith, few, length-drop p.walk.at p.text.now, c.ranges.pairs.0))), tt, writing_start _ _ _)

pub offset_bounds-js-i : goal.offset_bounds-js-i
offset_bounds-js-i c = let h = (room (goal.at.offset_bounds-js-i c).In-Some).0 in search rules

pub bounds-js-i : goal.bounds-js-i
bounds-js-i c = (room (goal.at.bounds-js-i c).In-Some).0

pub offset_bounds-ss-i : goal.offset_bounds-ss-i
offset_bounds-ss-i c = let h = (room (goal.at.offset_bounds-ss-i c).In-Some).1 in search rules

pub bounds-ss-i : goal.bounds-ss-i
bounds-ss-i c = (room (goal.at.bounds-ss-i c).In-Some).1

pub loop-i-preserved : goal.loop-i-preserved
loop-i-preserved c =
    let e = (goal.at.loop-i-preserved c).In-Some in
    let w = came e in
    let on = rw c.in-Some.is at c.next.ensures.goes.keeps in
    (on, tt, rw (w.2, w.1) (writing_step _ _ _ _ _ _ _ _ c.loop-i.invariant.2 _ _ (drawn e) (rw w.1 at (room e).0) (rw w.1 at (room e).1)))

pub returns : goal.returns
returns c =
    let t = rw c.in-None.is at c.next.ensures.steps in
    writing_end _ _ _ _ (coming (enumerate_source c.next.new.self)) _ _ _ c.loop-i.invariant.2 (pulled_draws _ _ _ t.0)
