-- `theta::Tree::exceeds` meets its contract: node v's completion is in the range that `theta::exceeds` asks for.
use mir.Facts.{to_z-of_z}
use mir.Syntax.{w64}
use mir.Val.{SFits}
use mathlib.Core.Path.{ap, ◌∙◌}
use lib.IntN.{pos, ◌+ℤ◌}
use lib.Signed.{lt_z}
use Rattle.theta.specs.Theta.{Nodes, end_of}
use Rattle.theta.proofs.Ranges.{end_under, end_fits}
use Rattle.theta.proofs.Tree.exceeds.Goals as goal
use Rattle.theta.proofs.Tree.exceeds.Goals.{After-self}

own-fits : (d : After-self) → SFits w64 (end_of d.self.inside.ends d.args.v)
own-fits d = end_fits _ _ d.self.invariant.ranged d.args.v d.requires.0

pub exceeds-requires : goal.exceeds-requires
exceeds-requires c =
    let d = (goal.at.exceeds-requires c).After-self in
    rw (to_z-of_z (own-fits d)) (end_under _ _ d.self.invariant.ranged d.args.v d.requires.0)

pub returns : goal.returns
returns c =
    let d = (goal.at.returns c).After-self in
    let a = c.args in
    (rw (to_z-of_z (own-fits d)) at c.exceeds.ensures) ∙ ap (λ (t : Nodes). lt_z (pos a.b) (end_of t.ends a.v +ℤ pos a.tail)) c.self.view_is
