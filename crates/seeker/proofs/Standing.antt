-- Which heading a text starts with: the first in the list of headings that stands there.
use Prim.Native.Nat.{ℕ, suc, ◌+◌, ◌<◌}
use native.Mathlib.Numerals.{add-one}
use native.Mathlib.Omega.{arith}
use mathlib.Core.Path.{◌≡◌, refl}
use mathlib.Core.Bool.{Bool, true, false, cond}
use mathlib.Core.List.{List, [], ◌∷◌}
use lib.ListN.{length}
use Rattle.std.specs.Prelude.{Option, Some, None}
use Rattle.std.specs.List.{position_from}
use Rattle.headings.specs.Headings.{headings, starts_with, Mark, mark_of}
use Rattle.seeker.specs.Found.{StandsSays}

module _ (t : List ℕ) (n : ℕ) where
  -- the marks found are those of the heading found, one of n
  abbrev Marked : List Mark → Option ℕ → Type 0
  Marked ms (Some i) = (i < n) × (ms ≡ record { which = i; from = t } ∷ [])
  Marked ms None = ms ≡ []

  choose : (k : ℕ) → k < n → (ms : List Mark) (o : Option ℕ) (here : Bool) → Marked ms o
      → Marked (cond here (record { which = k; from = t } ∷ []) ms) (cond here (Some k) o)
  choose k h ms o true m = (h, refl)
  choose k h ms o false m = m

  marked : (k : ℕ) (hs : List (List ℕ)) → k + length hs ≡ n → Marked (mark_of k hs t) (position_from (λ h. starts_with h t) k hs)
  unfolding mark_of
  marked k [] e = refl
  marked k (h ∷ hs) e =
      rw add-one (choose k (omega arith) (mark_of (suc k) hs t) (position_from (λ h. starts_with h t) (suc k) hs) (starts_with h t) (marked (suc k) hs (omega arith)))

pub standing : (t : List ℕ) → StandsSays t (position_from (λ h. starts_with h t) 0 headings)
standing t = marked t 5 0 headings refl
