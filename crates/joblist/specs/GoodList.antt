-- Good lists and refusals 1 to 3 (document 01, 'Answer table'; document 02, Item 3), over any columns: as facts, and as tests in the order of
-- their numbers.
use Rattle.std.specs.Prelude.{ℕ, zero, suc, ◌≤◌, ◌<◌, ◌≡◌, Bool, true, List, [], ◌∷◌, ◌++◌, ◌⊎◌, length, eqb, leb}
use Rattle.lists.specs.Lists.{◌!◌, Every}
use Rattle.lists.specs.Tests.{both, unless}
use Rattle.joblist.specs.Limits.{Column, most_jobs}

-- ---- facts

-- the list is as long as there are jobs
abbrev pub Sized : ℕ → Column → Type 0
Sized n c = length c.list ≡ n

-- no number is above its limit
abbrev pub Within : Column → Type 0
Within c = (k : ℕ) → c.list ! k ≤ c.most

-- a good list of n jobs: `columns` are the lists of the call, `alone` the numbers that stand beside them
pub record GoodList (n : ℕ) (columns alone : List Column) : Type 0 where
  pub sized : Every (Sized n) columns
  pub few : n ≤ most_jobs
  pub within : Every Within columns
  pub beside : Every Within alone

-- one of them
abbrev pub Any : (Column → Type 0) → List Column → Type 0
Any P [] = ⊥
Any P (c ∷ cs) = P c ⊎ Any P cs

-- some number is above its limit
abbrev pub Above : Column → Type 0
Above c = (k : ℕ) × (c.most < c.list ! k)

-- the lists differ in length
abbrev pub Unequal : ℕ → List Column → Type 0
Unequal n columns = Any (λ c. Sized n c → ⊥) columns

-- when the answer table gives refusal number k and none before it; number 0 stands for a good list
abbrev pub Given : ℕ → ℕ → List Column → List Column → Type 0
Given zero n columns alone = GoodList n columns alone
Given (suc zero) n columns alone = Unequal n columns
Given (suc (suc zero)) n columns alone = Every (Sized n) columns × (most_jobs < n)
Given (suc (suc (suc zero))) n columns alone = Every (Sized n) columns × (n ≤ most_jobs) × Any Above (columns ++ alone)
Given (suc (suc (suc (suc k)))) n columns alone = ⊥

-- ---- tests

unfoldable pub sized : ℕ → List Column → Bool
sized n [] = true
sized n (c ∷ cs) = both (eqb (length c.list) n) (sized n cs)

-- every number of a list is at most the limit
unfoldable pub at_most : ℕ → List ℕ → Bool
at_most m [] = true
at_most m (x ∷ xs) = both (leb x m) (at_most m xs)

unfoldable pub within : List Column → Bool
unfolding at_most
within [] = true
within (c ∷ cs) = both (at_most c.most c.list) (within cs)

-- the number of the first test that fails, and 0 where none does
unfoldable pub refusal : ℕ → List Column → List Column → ℕ
unfolding sized within
refusal n columns alone =
    unless (sized n columns) 1
    (unless (leb n most_jobs) 2
    (unless (both (within columns) (within alone)) 3 0))
