-- What the overload check promises (01, 'One job at a time' and 'Answer table'; 02, Item 3), of the windows, the durations and what it says.
use Rattle.std.specs.Prelude.{ℕ, zero, suc, ◌≤◌, ◌<◌, ◌≡◌, List, [], ◌∷◌, ◌↔◌}
use Rattle.answers.specs.Said.{Word, Said, said}
use Rattle.lists.specs.Sets.{Set}
use Rattle.joblist.specs.GoodList.{GoodList, Given, refusal}
use Rattle.joblist.specs.Limits.{jobs, three_lists}
use Rattle.narrowing.specs.Windows.{Win, Long}
use Rattle.overloads.specs.Overload.{Overloaded, NoneOverloaded, FirstPair, overload, found_said}

-- a good list of the check, in facts; and the number of its refusal by tests 1 to 3
abbrev pub Good : Win → List ℕ → Type 0
Good W p = GoodList (jobs W) (three_lists W p) []

unfoldable pub refusal_of : Win → List ℕ → ℕ
unfolding refusal
refusal_of W p = refusal (jobs W) (three_lists W p) []

-- the rows of refusals 1 to 3, else what is found
unfoldable pub tabled : Win → List ℕ → ℕ → Said
unfolding overload
tabled W p zero = found_said (overload (jobs W) p W)
tabled W p (suc k) = said Word.refused (suc k ∷ [])

-- what the check says
unfoldable pub overload_said : Win → List ℕ → Said
unfolding tabled refusal_of
overload_said W p = tabled W p (refusal_of W p)

-- the contract of the overload check
pub record Overloads (W : Win) (p : List ℕ) (a : Said) : Type 0 where
  pub answered : a ≡ overload_said W p
  -- refusal k exactly where its test is the first that fails
  pub refused : (k : ℕ) → (a ≡ said Word.refused (k ∷ [])) ↔ ((1 ≤ k) × Given k (jobs W) (three_lists W p) [])
  -- "none" exactly when the list is good and no non-empty set of its jobs is overloaded
  pub none : (a ≡ said Word.none []) ↔ (Good W p × NoneOverloaded (jobs W) p W)
  -- "overload x, y" exactly when the list is good and x, y is 01's pair
  pub pair : (x y : ℕ) → (a ≡ said Word.overload (x ∷ y ∷ [])) ↔ (Good W p × FirstPair (jobs W) p W x y)
  -- x and y are the least e and the greatest l of an overloaded set, which has a member
  pub bounds : (x y : ℕ) → a ≡ said Word.overload (x ∷ y ∷ []) → (T : Set) × (o : Overloaded (jobs W) p W T) × (o.from ≡ x) × (o.upto ≡ y)
  -- where every window is long enough, x < y
  pub rising : Long (jobs W) p W → (x y : ℕ) → a ≡ said Word.overload (x ∷ y ∷ []) → x < y
