-- `layouts::read` meets its contract: what is decided of the text is the answer, and the lists are filled where it is taken.
use mathlib.Core.Path.{refl}
use native.Mathlib.Omega.{arith}
use Rattle.std.proofs.lemmas.Result.{err_from_is_err_and}
use Rattle.exchange.specs.Calls.{Lent}
use Rattle.layouts.proofs.Answering.{refused_reads, few, fitting, pair_room, taken}
use Rattle.layouts.proofs.read.Goals as goal

pub returns-in_err-decided : goal.returns-in_err-decided
returns-in_err-decided g c =
    let L : Lent = record { est = c.args.est.now; lct = c.args.lct.now; dur = c.args.dur.now; dem = c.args.dem.now; jobs = c.args.jobs.now; successors = c.args.successors.now } in
    let p = err_from_is_err_and c.from_residual.result c.from_residual.ensures.1 in
    let t = c.in_err-decided.ensures L (record { est = refl; lct = refl; dur = refl; dem = refl; jobs = refl; successors = refl }) in
    rw (p.1, p.2) (refused_reads _ _ t)

pub fill-requires : goal.fill-requires
fill-requires g c =
    let L : Lent = record { est = c.args.est.now; lct = c.args.lct.now; dur = c.args.dur.now; dem = c.args.dem.now; jobs = c.args.jobs.now; successors = c.args.successors.now } in
    let t = c.in_ok-decided.ensures L (record { est = refl; lct = refl; dur = refl; dem = refl; jobs = refl; successors = refl }) in
    let f = fitting _ _ _ _ t.0 in
    let n = few _ _ _ _ t.0 in
    ((λ j. (t.0.chains.low j).1), omega (arith, f.est, n), omega (arith, f.lct, n), omega (arith, f.dur, n), omega (arith, f.dem, n))

pub new-pairs-requires : goal.new-pairs-requires
new-pairs-requires g c =
    let L : Lent = record { est = c.args.est.now; lct = c.args.lct.now; dur = c.args.dur.now; dem = c.args.dem.now; jobs = c.args.jobs.now; successors = c.args.successors.now } in
    few _ _ _ _ (c.in_ok-decided.ensures L (record { est = refl; lct = refl; dur = refl; dem = refl; jobs = refl; successors = refl })).0

pub write_pairs-requires : goal.write_pairs-requires
write_pairs-requires g c =
    let L : Lent = record { est = c.args.est.now; lct = c.args.lct.now; dur = c.args.dur.now; dem = c.args.dem.now; jobs = c.args.jobs.now; successors = c.args.successors.now } in
    let t = c.in_ok-decided.ensures L (record { est = refl; lct = refl; dur = refl; dem = refl; jobs = refl; successors = refl }) in
    pair_room _ _ _ _ t.0 c.new-pairs.result c.new-pairs.ensures

pub returns : goal.returns
returns g c =
    let L : Lent = record { est = c.args.est.now; lct = c.args.lct.now; dur = c.args.dur.now; dem = c.args.dem.now; jobs = c.args.jobs.now; successors = c.args.successors.now } in
    let t = c.in_ok-decided.ensures L (record { est = refl; lct = refl; dur = refl; dem = refl; jobs = refl; successors = refl }) in
    taken _ _ _ _ t.0 c.new-pairs.result c.new-pairs.ensures _ t.1 c.fill.ensures c.write_pairs.ensures
