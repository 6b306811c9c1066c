-- A list saved at the front of an array, and brought back.
use Prim.Native.Nat.{ℕ}
use mathlib.Core.Path.{◌≡◌, sym}
use mathlib.Core.List.{List, ◌++◌}
use lib.ListN.{length, take, drop}
use lib.Seq.{take_at}

-- what was saved comes back
pub saved_back : (from to kept : List ℕ) (n : ℕ) → kept ≡ from ++ drop (length from) to → n ≡ length from → take n kept ≡ from
saved_back from to kept n h e = rw h (take_at from (drop (length from) to) n (sym e))
