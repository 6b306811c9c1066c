-- `sequencing::work` meets its contract: the latest ends counted back tell the submitted windows, and the turns are those of the defined run.
use Rattle.sequencing.proofs.Ready.{both_start, long_start, works_same}
use Rattle.sequencing.proofs.work.Goals as goal

pub take_turns-answer-requires : goal.take_turns-answer-requires
take_turns-answer-requires c =
    let s = c.args in
    let p = c.requires in
    let q = c.count_back.ensures in
    let f = c.order.ensures.ordered in
    let r = c.order-2.ensures.ordered in
    (both_start s.est.now s.lct.now s.dur.now p.0 _ q _ _ f.0 f.1 r.0 r.1, long_start s.est.now s.lct.now s.dur.now p.0 _ q p.1)

pub returns : goal.returns
returns c =
    let s = c.args in
    let h = works_same s.est.now s.lct.now s.dur.now c.requires.0 _ c.count_back.ensures c.take_turns-answer.result _ c.take_turns-answer.ensures.works in
    rw c.count_back-2.ensures h
