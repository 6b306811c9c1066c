-- `headturns::turn_on` meets its contract, by what the search's start says.
use native.Mathlib.Omega.{arith}
use mathlib.Core.Path.{refl}
use lib.ListN.{length}
use Rattle.joblist.specs.Limits.{most_time}
use Rattle.mirrors.specs.Back.{told}
use Rattle.headturns.proofs.Found.{found_none, found_some, found_later, found_limit, ready_raised}
use Rattle.headturns.proofs.turn_on.Goals as goal

pub returns-then-to-starts : goal.returns-then-to-starts
returns-then-to-starts c =
    let s = c.args in
    let n = length s.starts.now in
    let W = told s.starts.now s.ends.now in
    (found_none n s.dur.now W s.job _ c.start-to.ensures c.if-to-starts.true, refl, refl)

pub overflow_sub-ends : goal.overflow_sub-ends
overflow_sub-ends c = c.requires.0.lent.ends_most c.args.job

pub overflow_add-to : goal.overflow_add-to
overflow_add-to c =
    let s = c.args in
    let n = length s.starts.now in
    let W = told s.starts.now s.ends.now in
    let l = c.requires.0.lent in
    omega (arith, found_limit n s.dur.now W s.job _ c.start-to.ensures most_time l.starts_most l.p_most, l.p_most s.job, l.few)

pub returns-then-ends-job : goal.returns-then-ends-job
returns-then-ends-job c =
    let s = c.args in
    let n = length s.starts.now in
    let W = told s.starts.now s.ends.now in
    (_, found_some n s.dur.now W s.job _ c.start-to.ensures c.if-to-starts.false, omega (arith, c.if-ends-job.true), refl, refl)

pub raise-requires : goal.raise-requires
raise-requires c =
    let s = c.args in
    let n = length s.starts.now in
    let W = told s.starts.now s.ends.now in
    let r = c.requires.0 in
    (r.lent.few, r.order, c.requires.1, found_later n s.dur.now W s.job _ c.start-to.ensures)

pub returns-else-ends-job : goal.returns-else-ends-job
returns-else-ends-job c =
    let s = c.args in
    let n = length s.starts.now in
    let W = told s.starts.now s.ends.now in
    let r = c.requires.0 in
    let x = c.raise.ensures in (
      _,
      found_some n s.dur.now W s.job _ c.start-to.ensures c.if-to-starts.false,
      omega (arith, c.if-ends-job.false, r.lent.ends_most s.job),
      x.x_after.0,
      ready_raised n s.starts.now s.ends.now s.dur.now s.order.now s.job _ r (omega (arith, c.if-ends-job.false)) _ _ x.x_after.0 x.x_after.1 x.x_after.2,
    )
