-- `seeker::heading_at` meets its contract: the first heading that stands there is found.
use borrow.Author.Tests.{tests}
use mathlib.Core.Path.{◌≡◌, ◌∙◌}
use lib.ListN.{drop}
use Rattle.std.proofs.Common.{rules}
use Rattle.std.proofs.lemmas.Iterator.{YieldsList-from_slice}
use Rattle.std.proofs.lemmas.Iterator.Adapters.{position_from-zero}
use Rattle.std.proofs.lemmas.Iterator.Search.{position_from_yields_List}
use Rattle.std.specs.List.{position_from}
use Rattle.headings.specs.Headings.{headings, starts_with}
use Rattle.seeker.proofs.Standing.{standing}
use Rattle.seeker.proofs.heading_at.Goals as goal

pub returns : goal.returns
returns c =
    let t = drop c.args.at c.args.text.now in
    let found : c.position.result ≡ position_from (λ h. starts_with h t) 0 headings =
    position_from_yields_List (λ h. starts_with h.now t) _ _ c.position.result c.position.ensures.ran (YieldsList-from_slice _ c.iter.ensures.rest) (λ x b q k. search (rules, tests))
    ∙ position_from-zero (λ h. starts_with h t) headings in
    rw found (standing t)
