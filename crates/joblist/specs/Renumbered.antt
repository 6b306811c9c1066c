-- The columns of the same jobs listed in another order: job k of the new list is job π k of the old one.
use Rattle.std.specs.Prelude.{ℕ, ◌≡◌, List, [], ◌∷◌, length}
use Rattle.lists.specs.Permutations.{SameList}
use Rattle.joblist.specs.Limits.{Column}
use Rattle.joblist.specs.GoodList.{Sized}

-- d is c with its numbers in the new order; where c is not as long as there are jobs, only as long as c
pub record SameColumn (n : ℕ) (π : ℕ → ℕ) (c d : Column) : Type 0 where
  pub limit : d.most ≡ c.most
  pub size : length d.list ≡ length c.list
  pub numbers : Sized n c → SameList n π c.list d.list

-- column by column
abbrev pub SameColumns : ℕ → (ℕ → ℕ) → List Column → List Column → Type 0
SameColumns n π [] [] = Unit {0}
SameColumns n π [] (d ∷ ds) = ⊥
SameColumns n π (c ∷ cs) [] = ⊥
SameColumns n π (c ∷ cs) (d ∷ ds) = SameColumn n π c d × SameColumns n π cs ds
