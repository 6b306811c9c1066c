-- The marks of a clash log (document 02, Item 14): from the closing record back to the first, its job and its members, then the members of each earlier
-- record whose moved job is marked. As a walk, and in facts; and the records that the walk needs.
use Rattle.std.specs.Prelude.{ℕ, ◌≡◌, true, cond, List, [], ◌∷◌, eqb}
use Rattle.lists.specs.Tests.{both, either}
use Rattle.lists.specs.Sets.{Set}
use Rattle.journal.specs.Journal.{job_of, is_member}

-- whom records mark in a clash of job j: with no record j alone; with one more in front of others those whom the others mark, and its members where its moved
-- job is one of those. The moved job of the closing record, the last, is j itself.
unfoldable pub marked_by : ℕ → List (List ℕ) → Set
marked_by j [] k = eqb k j
marked_by j (x ∷ xs) k = either (marked_by j xs k) (both (marked_by j xs (job_of x)) (is_member x k))

-- the same in facts: job k is j; or traced by the records behind the first; or a member of the first, whose moved job is traced by those behind it
pub data Traced (j : ℕ) : List (List ℕ) → ℕ → Type 0 where
  own : {xs : List (List ℕ)} → Traced j xs j
  behind : {x : List ℕ} {xs : List (List ℕ)} {k : ℕ} → Traced j xs k → Traced j (x ∷ xs) k
  through : {x : List ℕ} {xs : List (List ℕ)} {k : ℕ} → Traced j xs (job_of x) → is_member x k ≡ true → Traced j (x ∷ xs) k

-- the records that a clash of job j needs: with no record none; with one more in front of others those that they need, and it where they mark its moved job
unfoldable pub needed_by : ℕ → List (List ℕ) → List (List ℕ)
unfolding marked_by
needed_by j [] = []
needed_by j (x ∷ xs) = let rest = needed_by j xs in cond (marked_by j xs (job_of x)) (x ∷ rest) rest
