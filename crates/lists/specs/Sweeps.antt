-- One pass over the numbers by rising e: what is done after each, where only the members of a set take their p (001; document 02, Item 2).
use Rattle.std.specs.Prelude.{ℕ, zero, suc, ◌+◌, List, ltb}
use Rattle.lists.specs.Lists.{◌!◌}
use Rattle.lists.specs.Tests.{pick}
use Rattle.lists.specs.Sets.{Set}

-- what is done after one more member: the later of what was done and its e, plus its p
abbrev pub advanced : ℕ → ℕ → ℕ → ℕ
advanced z e p = pick (ltb z e) e z + p

-- the members at the first m places of the order o, one after the other
unfoldable pub sweep : List ℕ → List ℕ → Set → List ℕ → ℕ → ℕ
sweep e p O o zero = 0
sweep e p O o (suc m) =
    let z = sweep e p O o m in
    let x = advanced z (e ! (o ! m)) (p ! (o ! m)) in
    pick (O (o ! m)) x z
