-- `linewise::starts_at` meets its contract: the part from `at` on starts with the bytes; a place behind the end has none.
use mathlib.Core.Path.{◌∙◌}
use Rattle.linewise.proofs.Places.{starts_part}
use Rattle.linewise.proofs.starts_at.Goals as goal

pub returns : goal.returns
returns c = c.starts_with.ensures.value ∙ starts_part _ _ _ _ c.min.ensures
