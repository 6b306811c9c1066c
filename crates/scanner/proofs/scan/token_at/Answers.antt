use mathlib.Core.Path.{sym, ◌∙◌}
use Rattle.scanner.proofs.Numbers.{digit_is}
use Rattle.scanner.proofs.Tokens.{inside_blank, inside_digit, inside_other, inside_end}
use Rattle.scanner.proofs.scan.token_at.Goals as goal

pub returns-then-is_blank : goal.returns-then-is_blank
returns-then-is_blank c =
    let q = c.loop-i.invariant in
    (q.0, q.1, q.2 ∙ inside_blank _ _ c.loop-i-test.true _ (sym c.is_blank.ensures ∙ c.if-is_blank.true))

pub returns-then-not-is_ascii_digit : goal.returns-then-not-is_ascii_digit
returns-then-not-is_ascii_digit c =
    let q = c.loop-i.invariant in
    let solid = sym c.is_blank.ensures ∙ c.if-is_blank.false in
    let o = inside_other _ _ c.loop-i-test.true q.0 solid (digit_is _ ∙ sym c.is_ascii_digit.ensures.value ∙ c.if-not-is_ascii_digit.true) in
    (o.0, q.2 ∙ o.1)

pub with_digit-v-requires : goal.with_digit-v-requires
with_digit-v-requires c = (c.loop-i.invariant.1.most, digit_is _ ∙ sym c.is_ascii_digit.ensures.value ∙ c.if-not-is_ascii_digit.false)

pub loop-i-preserved : goal.loop-i-preserved
loop-i-preserved c =
    let q = c.loop-i.invariant in
    let solid = sym c.is_blank.ensures ∙ c.if-is_blank.false in
    let counts = digit_is _ ∙ sym c.is_ascii_digit.ensures.value ∙ c.if-not-is_ascii_digit.false in
    (_, c.with_digit-v.ensures q.0 q.1, q.2 ∙ inside_digit _ _ c.loop-i-test.true q.0 solid counts)

pub returns : goal.returns
returns c =
    let q = c.loop-i.invariant in
    (q.0, q.1, q.2 ∙ inside_end _ _ _ c.loop-i-test.false)
