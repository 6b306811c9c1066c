-- Spare members (document 02, Item 7), of any set of numbers: the total r of those below n, with a number that counts beside it, exceeds a limit, and still
-- does without the member. Going through the numbers in rising order, each member that is spare by then is dropped. A member that is not below n counts
-- for nothing, so that it is spare wherever the limit is exceeded.
use Prim.Native.Nat.{ℕ, zero, suc, ◌+◌, ◌≤◌, ◌<◌}
use Rattle.std.specs.Prelude.{◌≡◌, Bool, true, not, List, ltb, eqb}
use Rattle.lists.specs.Tests.{both}
use Rattle.lists.specs.Sets.{Set, total_of}

-- the members of T but k
abbrev pub without : Set → ℕ → Set
without T k i = both (not (eqb i k)) (T i)

-- the total of T, with what counts beside it
abbrev pub amount : ℕ → List ℕ → ℕ → Set → ℕ
amount n r own T = total_of n r T + own

module _ (n : ℕ) (r : List ℕ) (own limit : ℕ) where
  -- k is a spare member of T: without it the limit is still exceeded
  pub record Spare (T : Set) (k : ℕ) : Type 0 where
    pub member : T k ≡ true
    pub still : limit < amount n r own (without T k)

  -- T has no spare member: without any one of them the limit is not exceeded
  abbrev pub NoneSpare : Set → Type 0
  NoneSpare T = (k : ℕ) → T k ≡ true → amount n r own (without T k) ≤ limit

  -- the test of `Spare`
  unfoldable pub spare : Set → ℕ → Bool
  unfolding total_of
  spare T k = both (T k) (ltb limit (amount n r own (without T k)))

  -- what is left of T once the numbers below k have been gone through, and each one that was spare by then has been dropped
  unfoldable pub dropped : Set → ℕ → Set
  unfolding spare
  dropped T zero = T
  dropped T (suc k) = let S = dropped T k in λ i. both (S i) (not (both (eqb i k) (spare S k)))

  -- what is left once all have been gone through
  unfoldable pub leaned : Set → Set
  unfolding dropped
  leaned T = dropped T n
