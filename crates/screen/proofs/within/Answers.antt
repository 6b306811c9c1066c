-- `screen::within` meets its contract.
use mathlib.Core.Path.{◌≡◌, sym, ◌∙◌}
use lib.Dec.{leb}
use borrow.Author.Rules.{rules}
use borrow.Author.Tests.{tests}
use Rattle.std.proofs.lemmas.Iterator.{YieldsList-from_slice}
use Rattle.std.proofs.lemmas.Iterator.Search.{all_from_yields_List}
use Rattle.joblist.specs.GoodList.{at_most}
use Rattle.screen.proofs.Tests.{all-at_most}
use Rattle.screen.proofs.within.Goals as goal

pub returns-then-all : goal.returns-then-all
returns-then-all c =
    let a = c.args in
    let e : c.all.result ≡ at_most a.most a.list.now =
    all_from_yields_List (λ x. leb x a.most) _ _ c.all.result c.all.ensures.ran (YieldsList-from_slice a.list.now cc) (λ x b q k. search (rules, tests)) ∙ all-at_most a.most a.list.now
    in
    rw (sym e ∙ c.if-all.true)

pub returns-else-all : goal.returns-else-all
returns-else-all c =
    let a = c.args in
    let e : c.all.result ≡ at_most a.most a.list.now =
    all_from_yields_List (λ x. leb x a.most) _ _ c.all.result c.all.ensures.ran (YieldsList-from_slice a.list.now cc) (λ x b q k. search (rules, tests)) ∙ all-at_most a.most a.list.now
    in
    rw (sym e ∙ c.if-all.false)
