-- `windows::lowest_too_short` meets its contract.
use mathlib.Core.Path.{◌≡◌}
use mathlib.Core.Bool.{true, false}
use borrow.Author.Rules.{rules}
use borrow.Author.Tests.{tests}
use Rattle.std.proofs.lemmas.Iterator.{first_from_Range}
use Rattle.narrowing.specs.Windows.{win, closes}
use Rattle.windows.proofs.TooShort.{first_too_short}
use Rattle.windows.proofs.lowest_too_short.Goals as goal

pub returns : goal.returns
returns c =
    let a = c.args in
    let W = win a.est.now a.lct.now in
    first_too_short _ a.dur.now W _
    (
    first_from_Range _ _ _ _ (λ i. closes a.dur.now W i ≡ true) (λ i. closes a.dur.now W i ≡ false) c.find.ensures.ran
    (λ x q k. search (rules, tests))
    (λ x q k. (search rules, search (rules, tests)))
    )
