-- `rowheads::read_count` meets its contract: one reading, behind a head that has the rest.
use mathlib.Core.Path.{refl}
use Rattle.std.proofs.lemmas.Result.{err_from_is_err_and}
use Rattle.rowheads.specs.Heads.{with_count}
use Rattle.rowheads.proofs.read_count.Goals as goal

pub returns-in_err-count : goal.returns-in_err-count
unfolding with_count
returns-in_err-count c =
    let p = err_from_is_err_and c.from_residual.result c.from_residual.ensures.1 in
    let r = c.in_err-count.ensures in
    λ h res d q. rw (p.1, p.2, r)

pub returns : goal.returns
unfolding with_count
returns c =
    let r = c.in_ok-count.ensures in
    λ h res d q. (record { duration = h.duration; demands = h.demands; count = c.in_ok-count.count.value }, rw r, d, q, refl)
