-- `scanner::next_up_to` meets its contract: what is held tells the number from the limit, since no limit reaches the most that is held.
use native.Mathlib.Omega.{arith}
use borrow.Author.Rules.{rules}
use Rattle.scanner.proofs.Numbers.{one_good, one_large, one_neither}
use Rattle.scanner.proofs.next_up_to.Goals as goal

pub returns-in-Ok : goal.returns-in-Ok
returns-in-Ok c =
    let q = c.in-Number.ensures in
    let v = c.in-Ok.ensures.1 in
    rw v (one_good _ _ _ _ _ _ (search rules) q.1 (omega (arith, c.if-value-top.true, v)) q.2)

pub returns-in_default : goal.returns-in_default
returns-in_default c =
    let q = c.in-Number.ensures in
    one_large _ _ _ _ _ _ q.1 (omega (arith, c.if-value-top.false, c.in-Ok.ensures.1)) q.2

pub returns-in_default-2 : goal.returns-in_default-2
returns-in_default-2 c =
    let q = c.in-Number.ensures in
    one_large _ _ _ _ _ _ q.1 (omega (arith, c.in_default.ensures, c.ranges.top.fits)) q.2

pub returns-in-Other : goal.returns-in-Other
returns-in-Other c = one_neither _ _ _ _ _ c.in-Other.is c.next_number.ensures
