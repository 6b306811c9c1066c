-- `linewise::behind_lines` meets its contract: the lines left, from `to` on, end where all of them do.
use Prim.Native.Nat.{◌-◌}
use mathlib.Core.Path.{◌≡◌}
use lib.ListN.{drop}
use Rattle.headings.specs.Lines.{behind_lines}
use Rattle.linewise.proofs.behind_lines.Given as goal

abbrev pub invariant-loop : goal.invariant-loop
invariant-loop l = behind_lines l.m (drop l.at l.text) ≡ behind_lines (l.m - l.counter) (drop l.to l.text)
