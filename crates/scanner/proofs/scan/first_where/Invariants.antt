-- `scanner::scan::first_where` meets its contract: whatever test the calls agree with, no byte from `at` up to i passes it.
use Prim.Native.Nat.{ℕ, ◌<◌}
use mathlib.Core.Path.{◌≡◌}
use mathlib.Core.Bool.{Bool}
use lib.ListN.{drop}
use Rattle.scanner.specs.Scan.{from_first}
use Rattle.scanner.proofs.scan.first_where.Given as goal

abbrev pub invariant-loop-i : goal.invariant-loop-i
invariant-loop-i g l =
    (f : ℕ → Bool) → ((b : ℕ) (r : Bool) → b < 256 → goal.F-post g l.test b r → r ≡ f b) → from_first f (drop l.at l.text) ≡ from_first f (drop l.i l.text)
