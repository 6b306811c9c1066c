-- `sections::parse` meets its contract: the headings, the two counts, and then what `read_tables` says.
use native.Mathlib.Omega.{arith}
use mathlib.Core.Path.{◌≡◌}
use Rattle.std.specs.Prelude.{Some}
use Rattle.std.proofs.lemmas.Result.{err_from_is_err_and}
use Rattle.answers.specs.declared.reasons.Refusal.{Refusal}
use Rattle.headings.proofs.Facts.{counted_takes}
use Rattle.seeker.specs.Found.{FindSays}
use Rattle.sections.proofs.Parsing.{no_headings, no_jobs, no_resources, by_tables}
use Rattle.sections.proofs.parse.Goals as goal
use Rattle.sections.proofs.parse.Goals.{In_ok-places}

found : (h : In_ok-places) → FindSays h.args.text.now (Some h.in_ok-places.places)
found h = rw h.in_ok-places.ensures.ok_part at h.find.ensures

pub returns-in_err-places : goal.returns-in_err-places
returns-in_err-places c =
    let p = err_from_is_err_and c.from_residual.result c.from_residual.ensures.1 in
    let v = rw c.in_err-places.ensures.ok_part at c.in_err-places.ensures.value in
    let e : c.in_err-places.field-0.0 ≡ Refusal.Headings = cc in
    rw (p.1, p.2, e) (no_headings _ (rw c.in_err-places.ensures.ok_part at c.find.ensures))

pub returns-in_err-n : goal.returns-in_err-n
returns-in_err-n c =
    let p = err_from_is_err_and c.from_residual-in_err-n.result c.from_residual-in_err-n.ensures.1 in
    let f = found (goal.at.returns-in_err-n c).In_ok-places in
    rw (p.1, p.2) (no_jobs _ f.0 _ (rw (f.1 0 (omega arith)) c.in_err-n.ensures))

pub returns-in_err-k : goal.returns-in_err-k
returns-in_err-k c =
    let p = err_from_is_err_and c.from_residual-in_err-k.result c.from_residual-in_err-k.ensures.1 in
    let f = found (goal.at.returns-in_err-k c).In_ok-places in
    let n = c.in_ok-n.ensures in
    rw (p.1, p.2) (no_resources _ f.0 c.in_ok-n.n n.0 (rw (f.1 0 (omega arith)) n.1) _ (rw (f.1 1 (omega arith)) c.in_err-k.ensures))

pub read_tables-requires : goal.read_tables-requires
read_tables-requires c =
    (counted_takes _ _ _ _ c.in_ok-n.ensures.1)

pub returns : goal.returns
returns c =
    let f = found (goal.at.returns c).In_ok-places in
    let n = c.in_ok-n.ensures in
    let k = c.in_ok-k.ensures in
    let t = by_tables c.args.text.now f.0 c.in_ok-n.n n.0 (rw (f.1 0 (omega arith)) n.1) c.in_ok-k.k k.0 (rw (f.1 1 (omega arith)) k.1) in
    rw (t, f.1 2 (omega arith), f.1 3 (omega arith), f.1 4 (omega arith)) c.read_tables.ensures
