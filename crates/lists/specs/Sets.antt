-- Sets of the numbers below n, each with its numbers in lists: the total, the least and the greatest over a set, and 001's
-- greatest "least e plus total p" over the non-empty subsets of a set.
use Rattle.std.specs.Prelude.{ℕ, zero, suc, ◌+◌, ◌≤◌, ◌<◌, ◌≡◌, Bool, true, List, ◌⊎◌, leb, ltb}
use Rattle.std.proofs.Math.Option.{Option, none, some}
use Rattle.lists.specs.Lists.{◌!◌}
use Rattle.lists.specs.Tests.{both, only, pick}
use Rattle.lists.specs.Sums.{total}

-- the k with `T k ≡ true`, of those below n
abbrev pub Set : Type 0
Set = ℕ → Bool

-- every member of T is one of O
abbrev pub Sub : ℕ → Set → Set → Type 0
Sub n T O = (k : ℕ) → k < n → T k ≡ true → O k ≡ true

-- T has no member
abbrev pub Empty : ℕ → Set → Type 0
Empty n T = (k : ℕ) → k < n → T k ≡ true → ⊥

-- T consists of L and R, which have no member in common
pub record Parts (n : ℕ) (T L R : Set) : Type 0 where
  pub left : Sub n L T
  pub right : Sub n R T
  pub each : (k : ℕ) → k < n → T k ≡ true → (L k ≡ true) ⊎ (R k ≡ true)
  pub apart : (k : ℕ) → k < n → L k ≡ true → R k ≡ true → ⊥

-- the members' total p
unfoldable pub total_of : ℕ → List ℕ → Set → ℕ
unfolding total
total_of n p T = total (λ k. only (T k) (p ! k)) n

-- a is the least x of the members; such a set is not empty
pub record LeastOf (n : ℕ) (x : List ℕ) (T : Set) (a : ℕ) : Type 0 where
  pub at : ℕ
  pub below : at < n
  pub member : T at ≡ true
  pub is : x ! at ≡ a
  pub least : (k : ℕ) → k < n → T k ≡ true → a ≤ x ! k

-- a is the greatest x of the members; such a set is not empty
pub record GreatestOf (n : ℕ) (x : List ℕ) (T : Set) (a : ℕ) : Type 0 where
  pub at : ℕ
  pub below : at < n
  pub member : T at ≡ true
  pub is : x ! at ≡ a
  pub greatest : (k : ℕ) → k < n → T k ≡ true → x ! k ≤ a

-- the set's least e plus its total p is b
pub record Ends (n : ℕ) (e p : List ℕ) (T : Set) (b : ℕ) : Type 0 where
  pub from : ℕ
  pub least : LeastOf n e T from
  pub is : b ≡ from + total_of n p T

-- b is the greatest such sum over the non-empty subsets of O
pub record Latest (n : ℕ) (e p : List ℕ) (O : Set) (b : ℕ) : Type 0 where
  pub T : Set
  pub sub : Sub n T O
  pub ends : Ends n e p T b
  pub most : (T' : Set) (b' : ℕ) → Sub n T' O → Ends n e p T' b' → b' ≤ b

-- 001's completion of a set: that greatest sum, and none for a set with no member
abbrev pub Completes : ℕ → List ℕ → List ℕ → Set → Option ℕ → Type 0
Completes n e p O none = Empty n O
Completes n e p O (some b) = Latest n e p O b

-- 001, 2.22: the later of the right completion and the left one with the right part's total p after it
abbrev pub later : Option ℕ → Option ℕ → ℕ → Option ℕ
later none y t = y
later (some x) none t = some (x + t)
later (some x) (some y) t = some (pick (ltb (x + t) y) y (x + t))

-- the members with e ≥ a
abbrev pub above : List ℕ → Set → ℕ → Set
above e O a k = both (O k) (leb a (e ! k))

-- of y and the f k of the members below m the one that is better than all before it
unfoldable pub best_of : (ℕ → ℕ → Bool) → Set → (ℕ → ℕ) → ℕ → ℕ → ℕ
best_of better O f y zero = y
best_of better O f y (suc m) =
    let x = f m in
    let z = best_of better O f y m in
    pick (both (O m) (better x z)) x z

-- the greatest, and the least, of y and the f k of the members below m
unfoldable pub most : Set → (ℕ → ℕ) → ℕ → ℕ → ℕ
unfolding best_of
most = best_of (λ x z. ltb z x)

unfoldable pub fewest : Set → (ℕ → ℕ) → ℕ → ℕ → ℕ
unfolding best_of
fewest = best_of ltb
