-- `judge::code_of` meets its contract: what 21 and 22 let through can be looked up by the later tests. That the first test that fails gives its code, the
-- check finds by itself from `Chain.code_is`.
use native.Mathlib.Omega.{arith}
use mathlib.Core.Path.{◌≡◌, sym, ◌∙◌}
use mathlib.Core.List.{[]}
use lib.ListN.{length}
use Rattle.narrowing.specs.Windows.{win}
use Rattle.codes.specs.Facts.{InRange}
use Rattle.exam.specs.Lent.{jobs_in, Drawn, LetThrough}
use Rattle.judge.proofs.Chain.{ranged, placed, drawn, timed}
use Rattle.judge.proofs.code_of.Goals as goal
use Rattle.judge.proofs.code_of.Goals.{Else-not-in_range, Else-not-partners, Start}

listed : (d : Else-not-in_range) → InRange (jobs_in (length d.args.dur.now) [] [] 0) d.args.words.now
listed d = ranged _ _ (sym d.in_range.ensures ∙ d.if-not-in_range.false)

placed-in : (d : Else-not-partners) → LetThrough (length d.args.dur.now) d.args.words.now
placed-in d =
    let a = d.args in
    placed (length a.dur.now) a.dur.now a.dem.now a.words.now (sym d.in_range.ensures ∙ d.if-not-in_range.false)
    (sym d.partners.ensures ∙ d.if-not-partners.false)

draws : (s : Start) → Drawn s.args.dem.now
draws s = let a = s.args in drawn (win a.est.now a.lct.now) a.dur.now a.dem.now a.cap s.requires

pub exceeds-requires : goal.exceeds-requires
exceeds-requires c =
    let at = goal.at.exceeds-requires c in
    (draws at.Start, omega (arith, (listed at.Else-not-in_range).job, c.requires.sized))

pub stated_true-requires : goal.stated_true-requires
stated_true-requires c =
    let a = c.args in
    (timed (win a.est.now a.lct.now) a.dur.now a.dem.now a.cap c.requires, placed-in (goal.at.stated_true-requires c).Else-not-partners)

pub tightens-requires : goal.tightens-requires
tightens-requires c =
    let f = listed (goal.at.tightens-requires c).Else-not-in_range in
    (omega (arith, f.job, c.requires.sized), omega (arith, f.job, c.requires.sized))

pub lean-requires : goal.lean-requires
lean-requires c =
    let at = goal.at.lean-requires c in
    let same : length c.args.dur.now ≡ length c.args.dem.now = omega (arith, c.requires.sized) in
    (draws at.Start, rw same at (placed-in at.Else-not-partners))
