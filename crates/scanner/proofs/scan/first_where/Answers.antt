use mathlib.Core.Path.{sym, ◌∙◌}
use Rattle.std.proofs.Common.{rules}
use Rattle.scanner.proofs.First.{first_here, first_other, first_end}
use Rattle.scanner.proofs.scan.first_where.Goals as goal

pub returns-then-test-clause-first : goal.returns-then-test-clause-first
returns-then-test-clause-first g c = λ f h.
    first_here f _ _ c.loop-i-test.true (sym (h _ _ (search rules) c.test.ensures) ∙ c.if-test.true) ∙ sym (c.loop-i.invariant f h)

pub loop-i-preserved : goal.loop-i-preserved
loop-i-preserved g c = λ f h. c.loop-i.invariant f h ∙ first_other f _ _ c.loop-i-test.true (sym (h _ _ (search rules) c.test.ensures) ∙ c.if-test.false)

pub returns-clause-first : goal.returns-clause-first
returns-clause-first g c = λ f h. first_end f _ _ c.loop-i-test.false ∙ sym (c.loop-i.invariant f h)
