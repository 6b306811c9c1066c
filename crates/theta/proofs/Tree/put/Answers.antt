use native.Mathlib.Omega.{arith}
use mathlib.Core.Path.{refl, subst, ◌∙◌}
use Prim.Native.Nat.{ℕ, ◌+◌, ◌*◌, ◌/◌, ◌^◌, ◌<◌}
use mir.Facts.{to_z-of_z, to_z_pos}
use mir.Syntax.{w64}
use mir.Val.{SFits}
use lib.IntN.{pos, ◌+ℤ◌}
use lib.ListN.{set}
use borrow.Author.Rules.{sfits_of}
use Rattle.joblist.specs.Limits.{most_jobs}
use Rattle.lists.specs.Lists.{◌!◌}
use Rattle.theta.specs.Theta.{Nodes, end_of, Climbed}
use Rattle.theta.proofs.Ranges.{sum_under, child_sums, end_under, end_fits, tail_fits, max_joined}
use Rattle.theta.proofs.Climbs.{climb_start, climb_step, climb_end, put_changed}
use Rattle.theta.proofs.Tree.put.Goals as goal
use Rattle.theta.proofs.Tree.put.Goals.{In-loop-v}

pub loop-v-init : goal.loop-v-init
loop-v-init c =
    let a = c.args in
    let q = c.requires in
    let i = c.self.inside in
    rw (c.from.ensures, to_z_pos w64 {n = a.e + a.p} (omega (arith, q.1, q.2)))
    (climb_start most_jobs _ _ _ (put_changed most_jobs i.sums i.ends a.x a.p (pos (a.e + a.p)) q.0 c.self.invariant.ranged c.self.invariant.joins q.2 (omega (arith, q.1, q.2))))

pub invariant_of-self : goal.invariant_of-self
invariant_of-self c = let d = climb_end most_jobs _ _ _ _ _ c.loop-v.invariant c.loop-v-test.false in record { ranged = d.ranged; joins = d.joins }

-- ---- a turn: the children of v's parent

abbrev left : In-loop-v → ℕ
left d = 2 * (d.loop-v.v / 2)

abbrev total : In-loop-v → ℕ
total d = d.loop-v.self-inside.sums ! (left d + 1)

small : (d : In-loop-v) → total d < 2 ^ 32
small d = omega (arith, sum_under most_jobs _ _ d.loop-v.invariant.changed.ranged (left d + 1) (omega arith))

left-fits : (d : In-loop-v) → SFits w64 (end_of d.loop-v.self-inside.ends (left d))
left-fits d = end_fits _ _ d.loop-v.invariant.changed.ranged (left d) (omega arith)

moved-fits : (d : In-loop-v) → SFits w64 (end_of d.loop-v.self-inside.ends (left d) +ℤ pos (total d))
moved-fits d = tail_fits _ (total d) (end_under _ _ d.loop-v.invariant.changed.ranged (left d) (omega arith)) (small d)

pub overflow_add-moved : goal.overflow_add-moved
overflow_add-moved c =
    let d = (goal.at.overflow_add-moved c).In-loop-v in
    rw (to_z-of_z (left-fits d), c.from-in-loop-v.ensures, to_z_pos w64 {n = total d} (omega (arith, small d))) (moved-fits d)

pub overflow_add-self : goal.overflow_add-self
overflow_add-self c =
    let l = c.loop-v in
    omega (arith, child_sums most_jobs _ _ l.invariant.changed.ranged (l.v / 2) (omega arith))

pub loop-v-preserved : goal.loop-v-preserved
loop-v-preserved c =
    let d = (goal.at.loop-v-preserved c).In-loop-v in
    let l = c.loop-v in
    let right = to_z-of_z (end_fits _ _ l.invariant.changed.ranged (left d + 1) (omega arith)) in
    let h = rw (right, to_z-of_z (left-fits d), c.from-in-loop-v.ensures, to_z_pos w64 {n = total d} (omega (arith, small d)), to_z-of_z (moved-fits d)) at c.max.ensures in
    rw (to_z-of_z (sfits_of {w = w64} c.max.type_inv) ∙ h ∙ max_joined (end_of l.self-inside.ends (left d)) _ (total d))
    (climb_step most_jobs _ _ _ _ _ _ l.invariant (omega arith) refl)

pub returns : goal.returns
returns c =
    let a = c.args in
    let q = c.requires in
    let l = c.loop-v.self-inside in
    let h = rw (c.from.ensures, to_z_pos w64 {n = a.e + a.p} (omega (arith, q.1, q.2))) at (climb_end most_jobs _ _ _ _ _ c.loop-v.invariant c.loop-v-test.false) in
    subst (λ (t : Nodes). Climbed most_jobs (set t.sums (most_jobs + a.x) a.p) (set t.ends (most_jobs + a.x) (pos (a.e + a.p))) l.sums l.ends) c.self.view_is h
