-- `searches::Load::early` meets its contract: a demand above the capacity is too much everywhere; else the own sure part is searched first, then what lies before it.
use Rattle.searches.proofs.Busy.{last_all, last_own, last_beside}
use Rattle.searches.proofs.load.Load.early.Goals as goal

pub returns-then-cap-r : goal.returns-then-cap-r
returns-then-cap-r c = last_all c.args.self _ _ _ _ _ c.if-cap-r.true c.requires.1

pub returns-then-mid-x : goal.returns-then-mid-x
returns-then-mid-x c =
    let q = c.requires in
    let m = c.min-mid.ensures in
    last_own c.args.self _ _ _ _ _ _ q.0 q.1 m _ c.last_over-x.ensures c.if-mid-x.true

pub returns-else-mid-x : goal.returns-else-mid-x
returns-else-mid-x c =
    let q = c.requires in
    let m = c.min-mid.ensures in
    last_beside c.args.self _ _ _ _ _ _ q.0 q.1 m _ _ c.if-cap-r.false c.last_over-x.ensures c.if-mid-x.false c.last_over.ensures
