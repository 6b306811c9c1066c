use Prim.Native.Nat.{ℕ, ◌+◌, ◌*◌}
use native.Mathlib.Omega.{arith}
use mathlib.Core.Path.{◌≡◌, refl, sym, ap, subst, ◌∙◌}
use mathlib.Core.Bool.{true, false}
use Rattle.joblist.specs.Limits.{most_jobs}
use Rattle.lists.specs.Lists.{◌!◌}
use Rattle.theta.specs.Theta.{Nodes, Sound, depth}
use Rattle.theta.proofs.Ranges.{sum_under}
use Rattle.theta.proofs.Walks.{walk_start, walk_tail, walk_step, walk_end}
use Rattle.theta.proofs.Tree.descend.Goals as goal
use Rattle.theta.proofs.Tree.descend.Goals.{After-self}

sound : (d : After-self) → Sound most_jobs d.args.self.now.sums d.args.self.now.ends
sound d = subst (λ (t : Nodes). Sound most_jobs t.sums t.ends) d.self.view_is d.self.invariant

-- a sum read in the open tree
right_sum : {s t : Nodes} → s ≡ t → (v : ℕ) → s.sums ! v ≡ t.sums ! v
right_sum e v = ap (λ (n : Nodes). n.sums ! v) e

pub loop-v-init : goal.loop-v-init
loop-v-init c = walk_start most_jobs depth _ _ _ refl

pub loop-v-preserved-then-exceeds : goal.loop-v-preserved-then-exceeds
loop-v-preserved-then-exceeds c =
    let t = c.args.self.now in
    let l = c.loop-v in
    walk_step most_jobs depth t.sums t.ends c.args.b l.v l.tail (sound (goal.at.loop-v-preserved-then-exceeds c).After-self).joins c.loop-v-test.true l.invariant true
    (sym c.if-exceeds.true ∙ c.exceeds.ensures)

pub overflow_add-tail : goal.overflow_add-tail
overflow_add-tail c =
    let s = sound (goal.at.overflow_add-tail c).After-self in
    omega (arith, right_sum c.self.view_is (2 * c.loop-v.v + 1), walk_tail most_jobs depth _ _ _ _ _ s.joins c.loop-v-test.true c.loop-v.invariant, sum_under most_jobs _ _ s.ranged 1 (omega arith))

pub loop-v-preserved : goal.loop-v-preserved
loop-v-preserved c =
    let t = c.args.self.now in
    let l = c.loop-v in
    rw (right_sum c.self.view_is (2 * l.v + 1))
    (walk_step most_jobs depth t.sums t.ends c.args.b l.v l.tail (sound (goal.at.loop-v-preserved c).After-self).joins c.loop-v-test.true l.invariant false
    (sym c.if-exceeds.false ∙ c.exceeds.ensures))

pub returns : goal.returns
returns c = walk_end most_jobs depth _ _ _ _ _ c.loop-v-test.false c.loop-v.invariant
