-- `exam::every_member` meets its contract: `all` passes where each bit does.
use Prim.Native.Nat.{◌*◌}
use native.Mathlib.Nat.{sub-zero}
use mathlib.Core.Path.{refl, ◌∙◌}
use lib.ListN.{length}
use borrow.Author.Tests.{tests}
use Rattle.std.proofs.Common.{rules}
use Rattle.std.proofs.lemmas.Iterator.{YieldsList-from_range}
use Rattle.std.proofs.lemmas.Iterator.Search.{all_from_yields_List}
use Rattle.lists.specs.Tests.{where?}
use Rattle.members.specs.Members.{has}
use Rattle.exam.proofs.Steps.{all_every}
use Rattle.exam.proofs.every_member.Goals as goal

pub returns : goal.returns
returns g c = λ f h.
    let s = c.args.set.now in
    all_from_yields_List (λ k. where? (has s k) (f k)) _ _ c.all.result c.all.ensures.ran (YieldsList-from_range 0 (32 * length s) _ refl (sub-zero (32 * length s))) (λ x b q k. search (rules, tests))
    ∙ all_every (λ k. where? (has s k) (f k)) (32 * length s)
