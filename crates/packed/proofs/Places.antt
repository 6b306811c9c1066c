-- Where packed lists begin: from one list to the next, and never beyond the end.
use mathlib.Core.Path.{◌≡◌}
use mathlib.Core.List.{List}
use Prim.Native.Nat.{ℕ, zero, suc, ◌+◌, ◌≤◌}
use native.Mathlib.Numerals.{add-one}
use native.Mathlib.Omega.{arith}
use lib.ListN.{length}
use Rattle.packed.specs.Packed.{behind_at, start_of}

pub start_more : (xs : List ℕ) (k : ℕ) → start_of xs (k + 1) ≡ behind_at xs (start_of xs k)
unfolding start_of
start_more xs k = rw add-one

pub start_within : (xs : List ℕ) (k : ℕ) → start_of xs k ≤ length xs
unfolding start_of
start_within xs zero = omega arith
start_within xs (suc k) = omega arith
