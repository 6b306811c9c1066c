-- Bounds of sets over their non-empty subsets, by thresholds (001; document 02, Items 2, 4 and 6): the greatest "least e plus total p" (`Sets: Latest`),
-- and mirrored the least "greatest l less total p". The mirrored one may lie below zero: it is counted from `lead` below zero, the total p of all numbers.
use Rattle.std.specs.Prelude.{ℕ, ◌+◌, ◌-◌, ◌≤◌, ◌≡◌, true, List, leb}
use Rattle.lists.specs.Lists.{◌!◌}
use Rattle.lists.specs.Tests.{both}
use Rattle.lists.specs.Sets.{Set, Sub, total_of, GreatestOf, above, most, fewest}

-- the set's greatest l less its total p is b, and 0 where that is below zero
pub record Begins (n : ℕ) (l p : List ℕ) (T : Set) (b : ℕ) : Type 0 where
  pub upto : ℕ
  pub greatest : GreatestOf n l T upto
  pub is : b ≡ upto - total_of n p T

-- the total p of all: no set's greatest l less its total p lies further below zero
unfoldable pub lead : ℕ → List ℕ → ℕ
unfolding total_of
lead n p = total_of n p (λ k. true)

-- c less the lead is the least "greatest l less total p" over the non-empty subsets of O, as a signed number
pub record Soonest (n : ℕ) (l p : List ℕ) (O : Set) (c : ℕ) : Type 0 where
  pub T : Set
  pub sub : Sub n T O
  pub upto : ℕ
  pub greatest : GreatestOf n l T upto
  pub is : c + total_of n p T ≡ upto + lead n p
  pub least : (T' : Set) (u : ℕ) → Sub n T' O → GreatestOf n l T' u → c + total_of n p T' ≤ u + lead n p

-- the members with l ≤ a
abbrev pub under : List ℕ → Set → ℕ → Set
under l O a k = both (O k) (leb (l ! k) a)

-- member k's own threshold: its e plus the total p of the members with e no less
abbrev pub end_of : ℕ → List ℕ → List ℕ → Set → ℕ → ℕ
end_of n e p O k = e ! k + total_of n p (above e O (e ! k))

-- member k's own threshold, mirrored and counted from the lead
abbrev pub start_of : ℕ → List ℕ → List ℕ → Set → ℕ → ℕ
start_of n l p O k = l ! k + (lead n p - total_of n p (under l O (l ! k)))

-- the greatest of y and the members' own, and mirrored the least
unfoldable pub latest : ℕ → List ℕ → List ℕ → Set → ℕ → ℕ
unfolding total_of most
latest n e p O y = most O (end_of n e p O) y n

unfoldable pub soonest : ℕ → List ℕ → List ℕ → Set → ℕ → ℕ
unfolding total_of lead fewest
soonest n l p O y = fewest O (start_of n l p O) y n
