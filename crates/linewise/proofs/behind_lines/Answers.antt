use native.Mathlib.Omega.{arith}
use mathlib.Core.Path.{sym, ◌∙◌}
use Rattle.linewise.proofs.Counts.{lines_none, lines_step}
use Rattle.linewise.proofs.behind_lines.Goals as goal

pub loop-preserved : goal.loop-preserved
loop-preserved c = c.loop.invariant ∙ lines_step _ _ _ _ c.loop-test.true c.next_line-to.ensures

pub returns : goal.returns
returns c = lines_none _ _ (omega arith) ∙ sym c.loop.invariant
