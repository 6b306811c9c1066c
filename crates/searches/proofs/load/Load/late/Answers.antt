-- `searches::Load::late` meets its contract: a demand above the capacity is too much everywhere; else the own sure part is searched first, then what lies behind it.
use Rattle.searches.proofs.Busy.{first_all, first_own, first_beside}
use Rattle.searches.proofs.load.Load.late.Goals as goal

pub returns-then-cap-r : goal.returns-then-cap-r
returns-then-cap-r c = first_all c.args.self _ _ _ _ _ c.if-cap-r.true c.requires.0

pub returns-then-x-mid : goal.returns-then-x-mid
returns-then-x-mid c =
    let q = c.requires in
    let m = c.max-mid.ensures in
    first_own c.args.self _ _ _ _ _ _ q.0 q.1 m _ c.first_over-x.ensures c.if-x-mid.true

pub returns-else-x-mid : goal.returns-else-x-mid
returns-else-x-mid c =
    let q = c.requires in
    let m = c.max-mid.ensures in
    first_beside c.args.self _ _ _ _ _ _ q.0 q.1 m _ _ c.if-cap-r.false c.first_over-x.ensures c.if-x-mid.false c.first_over.ensures
