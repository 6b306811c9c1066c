-- `screen::supplied` meets its contract: the capacity is a list of one number.
use mathlib.Core.Path.{◌∙◌}
use Rattle.screen.proofs.Tests.{passed, alone}
use Rattle.screen.proofs.supplied.Goals as goal

pub returns : goal.returns
returns c = c.within-2.ensures ∙ rw (passed _ _ _ c.in_ok-within.ensures, alone)
