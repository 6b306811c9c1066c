-- `sections::read_tables` meets its contract: the three tables, one after the other.
use Rattle.std.proofs.lemmas.Result.{err_from_is_err_and}
use lib.ListN.{drop}
use Rattle.sections.proofs.Parsing.{Related, relations_read, requests_read, no_relations, no_requests, no_capacities, tables_read}
use Rattle.sections.proofs.read_tables.Goals as goal
use Rattle.sections.proofs.read_tables.Goals.{In_ok-related}

related : (e : In_ok-related) → let a = e.args in Related a.n a.text.now (drop a.from.relations a.text.now) e.behind_lines-at.result e.in_ok-related.related.pairs
related e = relations_read _ _ _ _ _ e.behind_lines-at.ensures _ e.in_ok-related.ensures

pub returns-in_err-related : goal.returns-in_err-related
returns-in_err-related c =
    let p = err_from_is_err_and c.from_residual.result c.from_residual.ensures.1 in
    rw (p.1, p.2) (no_relations _ _ _ c.args.text.now _ _ _ _ c.behind_lines-at.ensures _ c.in_err-related.ensures)

pub returns-in_err-dur : goal.returns-in_err-dur
returns-in_err-dur c =
    let p = err_from_is_err_and c.from_residual-in_err-dur.result c.from_residual-in_err-dur.ensures.1 in
    let r = related (goal.at.returns-in_err-dur c).In_ok-related in
    rw (p.1, p.2) (no_requests _ _ _ c.args.text.now _ _ _ _ _ r _ c.behind_lines-requests.ensures _ c.in_err-dur.ensures)

pub returns-in_err-capacity : goal.returns-in_err-capacity
returns-in_err-capacity c =
    let p = err_from_is_err_and c.from_residual-in_err-capacity.result c.from_residual-in_err-capacity.ensures.1 in
    let r = related (goal.at.returns-in_err-capacity c).In_ok-related in
    let q = requests_read _ _ _ c.args.text.now _ _ c.behind_lines-requests.ensures _ c.in_ok-dur.ensures in
    rw (p.1, p.2) (no_capacities _ _ _ c.args.text.now _ _ _ _ _ r _ _ q _ c.behind_lines-capacities.ensures _ c.in_err-capacity.ensures)

pub returns : goal.returns
returns c =
    let r = related (goal.at.returns c).In_ok-related in
    let q = requests_read _ _ _ c.args.text.now _ _ c.behind_lines-requests.ensures _ c.in_ok-dur.ensures in
    let m = c.in_ok-capacity.ensures in
    tables_read _ _ _ c.args.text.now _ _ _ _ _ r _ _ q _ c.behind_lines-capacities.ensures _ _ _ c.requires m.1 m.2
