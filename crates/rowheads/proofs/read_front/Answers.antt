-- `rowheads::read_front` meets its contract: each table has its two parts, one after the other. A refusal of the first is the refusal, and behind it the
-- second says the head.
use mathlib.Core.Path.{refl}
use Rattle.std.proofs.lemmas.Result.{err_from_is_err_and}
use Rattle.rowheads.specs.Heads.{bare}
use Rattle.rowheads.proofs.Numbers.{head_whole, head_relations, head_requests}
use Rattle.rowheads.proofs.read_front.Goals as goal

pub returns-in_err-need-in-Whole : goal.returns-in_err-need-in-Whole
returns-in_err-need-in-Whole c =
    let p = err_from_is_err_and c.from_residual.result c.from_residual.ensures.1 in
    let r = c.in_err-need-in-Whole.ensures in
    rw (p.1, p.2, c.in-Whole.is, head_whole, r)

pub returns-in_ok-need-in-Whole : goal.returns-in_ok-need-in-Whole
returns-in_ok-need-in-Whole c =
    let r = c.in_ok-need-in-Whole.ensures in
    rw (c.in-Whole.is, head_whole, r.1) (c.read_count.ensures r.0 _ r.2 r.3)

pub returns-in_err-numbered-in-Relations : goal.returns-in_err-numbered-in-Relations
returns-in_err-numbered-in-Relations c =
    let p = err_from_is_err_and c.from_residual-in_err-numbered-in-Relations.result c.from_residual-in_err-numbered-in-Relations.ensures.1 in
    let r = c.in_err-numbered-in-Relations.ensures in
    rw (p.1, p.2, c.in-Relations.is, head_relations, r)

pub returns-in_ok-numbered-in-Relations : goal.returns-in_ok-numbered-in-Relations
returns-in_ok-numbered-in-Relations c =
    let r = c.in_ok-numbered-in-Relations.ensures in
    rw (c.in-Relations.is, head_relations, r) (c.read_count-in-Relations.ensures bare _ refl refl)

pub returns-in_err-numbered-in-Requests : goal.returns-in_err-numbered-in-Requests
returns-in_err-numbered-in-Requests c =
    let p = err_from_is_err_and c.from_residual-in_err-numbered-in-Requests.result c.from_residual-in_err-numbered-in-Requests.ensures.1 in
    let r = c.in_err-numbered-in-Requests.ensures in
    rw (p.1, p.2, c.in-Requests.is, head_requests, r)

pub returns-in_ok-numbered-in-Requests : goal.returns-in_ok-numbered-in-Requests
returns-in_ok-numbered-in-Requests c =
    let r = c.in_ok-numbered-in-Requests.ensures in
    rw (c.in-Requests.is, head_requests, r) c.read_need-in-Requests.ensures
