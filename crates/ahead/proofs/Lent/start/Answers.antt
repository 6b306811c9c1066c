-- `ahead::Lent::start` meets its contract: a job of duration 0 stays, and another starts at the bound where that is later.
use lib.ListN.{length}
use Rattle.mirrors.specs.Back.{told}
use Rattle.ahead.proofs.Passes.{start_stays, start_is}
use Rattle.ahead.proofs.Lent.start.Goals as goal

pub returns-then-self-job-eq0 : goal.returns-then-self-job-eq0
returns-then-self-job-eq0 c =
    let s = c.args.self in
    start_stays (length s.starts.now) s.dur.now (told s.starts.now s.ends.now) c.args.job c.if-self-job-eq0.true

pub returns-else-self-job-eq0 : goal.returns-else-self-job-eq0
returns-else-self-job-eq0 c =
    let s = c.args.self in
    rw (c.max.ensures, c.bound_of.ensures) (start_is (length s.starts.now) s.dur.now (told s.starts.now s.ends.now) c.args.job)
