-- `draws::named` meets its contract: the sum of the demands of the members is small, so that one demand more fits the word.
use native.Mathlib.Omega.{arith}
use lib.ListN.{length}
use Rattle.lists.proofs.Sets.{total_of_limit}
use Rattle.joblist.specs.Limits.{most_demand}
use Rattle.journal.specs.Journal.{job_of, is_member}
use Rattle.draws.proofs.named.Goals as goal

pub overflow_add-result : goal.overflow_add-result
overflow_add-result c =
    let d = c.requires.0 in
    let r = c.args.dem.now in
    let x = c.args.words.now in
    omega (arith, c.members_draw.ensures, total_of_limit (length r) r (is_member x) most_demand d.within.0, d.few, d.within.0 (job_of x))
