-- `draws::lean` meets its contract: a member is in the list and its demand among those named, and taken away, it leaves those of the others.
use Prim.Native.Nat.{◌-◌, ◌≤◌, ◌<◌}
use mathlib.Core.Path.{sym, ◌∙◌}
use lib.Dec.{leb}
use lib.ListN.{length}
use Rattle.lists.specs.Lists.{◌!◌}
use Rattle.draws.proofs.Steps.{member_named, lean_is}
use Rattle.draws.proofs.lean.Goals as goal
use Rattle.std.proofs.Common.{rules}

pub every_member-requires-clause-asked : goal.every_member-requires-clause-asked
every_member-requires-clause-asked c = λ k m.
    let r = c.args.dem.now in
    let n = member_named r c.args.cap c.args.words.now _ c.set_of.ensures c.requires.1.members _ c.named-all.ensures k m in
    let listed : k < length r = n.0 in
    let among : r ! k ≤ c.named-all.result = n.1 in
    search rules

pub returns : goal.returns
returns c =
    let r = c.args.dem.now in
    c.every_member.ensures (λ k. leb (c.named-all.result - r ! k) c.args.cap) (λ k b m p. search rules)
    ∙ sym (lean_is r c.args.cap c.args.words.now _ c.set_of.ensures c.requires.1.members _ c.named-all.ensures)
