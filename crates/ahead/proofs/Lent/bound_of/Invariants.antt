-- `ahead::Lent::bound_of` meets its contract. Invariant: after so many places of the order the pass has done what `sweep` says of them.
use mathlib.Core.Path.{◌≡◌}
use Rattle.lists.specs.Sweeps.{sweep}
use Rattle.heads.specs.Search.{firsts}
use Rattle.mirrors.specs.Back.{told}
use Rattle.ahead.proofs.Lent.bound_of.Given as goal

abbrev pub invariant-loop-k : goal.invariant-loop-k
invariant-loop-k l = let s = l.self in l.done ≡ sweep s.starts.now s.dur.now (firsts s.dur.now (told s.starts.now s.ends.now) l.job) s.order.now l.k-index
