-- `draws::members_draw` meets its contract. The loop's invariant: the sum is that of the jobs passed.
use mathlib.Core.Path.{◌≡◌}
use Rattle.lists.specs.Sums.{total}
use Rattle.draws.proofs.Steps.{share_at}
use Rattle.draws.proofs.members_draw.Given as goal

abbrev pub invariant-loop-k : goal.invariant-loop-k
invariant-loop-k l = l.sum ≡ total (share_at l.dem l.set) l.k
