use Rattle.passes.proofs.Settling.{settling_start, settling_again, settling_less, settling_true, settling_false}
use Rattle.passes.proofs.settle.Goals as goal

pub loop-init : goal.loop-init
loop-init g c = settling_start _ _ _ _ _ c.requires.start.0

pub relax-requires : goal.relax-requires
relax-requires g c =
    let i = c.loop.invariant in
    let q = c.requires in
    record { can = q.can; n_le_most_jobs = q.start.1; by_index = (q.by_index, i.low) }

pub returns-in-Same : goal.returns-in-Same
returns-in-Same g c =
    let t = rw c.in-Same.is at c.relax.ensures.0 in
    ((λ n few. settling_true _ _ _ _ _ _ c.loop.invariant n few t), c.relax.ensures.1)

pub returns-in-Over : goal.returns-in-Over
returns-in-Over g c =
    let t = rw c.in-Over.is at c.relax.ensures.0 in
    ((λ n few. settling_false _ _ _ _ _ c.loop.v c.loop.invariant t), c.relax.ensures.1)

pub loop-smaller : goal.loop-smaller
loop-smaller g c =
    let t = rw c.in-Changed.is at c.relax.ensures.0 in
    settling_less _ _ _ _ _ _ c.loop.invariant t

pub loop-preserved : goal.loop-preserved
loop-preserved g c =
    let t = rw c.in-Changed.is at c.relax.ensures.0 in
    settling_again _ _ _ _ _ _ c.loop.invariant c.relax.ensures.1 t
