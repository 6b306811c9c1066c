-- The lowest job whose window is too short, as a search along the jobs finds it, and as those who call for it read the answer.
use Prim.Native.Nat.{ℕ, ◌≤◌, ◌<◌}
use native.Mathlib.Omega.{arith}
use mathlib.Core.Path.{◌≡◌}
use mathlib.Core.Bool.{true, false}
use mathlib.Core.List.{List}
use mathlib.Core.Option.{none, some}
use mathlib.Core.Option.{Option as Maybe}
use borrow.Author.Tests.{ltb-true, ltb-false}
use Rattle.std.specs.Prelude.{Option, Some, None, MatchOption}
use Rattle.narrowing.specs.Windows.{Win, Long, LowestTooShort, lowest_too_short, closes}
use Rattle.narrowing.proofs.TooShort.{TooShortSays, too_short_is, finds_too_short}
use Rattle.windows.specs.Found.{as_option}

module _ (n : ℕ) (p : List ℕ) (W : Win) where
  -- no window from job 0 up to job i is too short
  abbrev pub NoneBelow : ℕ → Type 0
  NoneBelow i = (k : ℕ) → 0 ≤ k → k < i → closes p W k ≡ false

  none_below : (i : ℕ) → NoneBelow i → Long i p W
  unfolding Long
  none_below i f k b = ltb-false _ _ (f k (omega arith) b)

  pub first_too_short : (r : Option ℕ) → MatchOption r (NoneBelow n) (λ i. (0 ≤ i) × (i < n) × (closes p W i ≡ true) × NoneBelow i)
      → r ≡ as_option (lowest_too_short n p W)
  first_too_short None f = rw (finds_too_short n p W none (none_below n f))
  first_too_short (Some i) f = rw (finds_too_short n p W (some i) (record { listed = f.1; shorter = ltb-true _ _ f.2; before = none_below i f.3 }))

  -- the answer read
  pub answer_too_short : (j : ℕ) → Some j ≡ as_option (lowest_too_short n p W) → LowestTooShort n p W j
  answer_too_short j e = go (lowest_too_short n p W) (too_short_is n p W) e
    where
      go : (x : Maybe ℕ) → TooShortSays n p W x → Some j ≡ as_option x → LowestTooShort n p W j
      go none s q = cc
      go (some i) s q = let k : j ≡ i = cc in rw k s

  pub answer_long : None ≡ as_option (lowest_too_short n p W) → Long n p W
  answer_long e = go (lowest_too_short n p W) (too_short_is n p W) e
    where
      go : (x : Maybe ℕ) → TooShortSays n p W x → None ≡ as_option x → Long n p W
      go none s q = s
      go (some i) s q = absurd (cc)
