use mathlib.Core.Path.{refl, sym, ◌∙◌, ap}
use Rattle.io.proofs.Counting.{prefix_len_of_le}
use Rattle.packed.specs.Packed.{behind_at, start_of}
use Rattle.packed.proofs.Places.{start_more, start_within}
use Rattle.packed.proofs.start.Goals as goal

pub loop-init : goal.loop-init
unfolding start_of
loop-init c = refl

pub loop-preserved : goal.loop-preserved
loop-preserved c =
    let words = c.args.words.now in
    c.behind-at.ensures ∙ ap (behind_at words) c.loop.invariant ∙ sym (start_more words c.loop.counter)

pub returns-clause-prefix_len : goal.returns-clause-prefix_len
returns-clause-prefix_len c = prefix_len_of_le _ _ (rw c.loop.invariant (start_within c.args.words.now c.loop.counter))
