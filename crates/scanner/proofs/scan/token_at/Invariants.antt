-- `scanner::scan::token_at` meets its contract: v holds the digits from `at` up to i, and the text goes on inside that number.
use Prim.Native.Nat.{ℕ}
use mathlib.Core.Path.{◌≡◌}
use lib.ListN.{drop}
use Rattle.texts.specs.Tokens.{number}
use Rattle.scanner.specs.Scan.{tokens_inside, Capped}
use Rattle.scanner.proofs.scan.token_at.Given as goal

abbrev pub invariant-loop-i : goal.invariant-loop-i
invariant-loop-i l = (x : ℕ) × Capped x l.v × (tokens_inside (number 0) (drop l.at l.text) ≡ tokens_inside (number x) (drop l.i l.text))
