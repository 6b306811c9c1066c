-- Lists packed into one list of words, one behind the other, each as its length and then its numbers.
use Rattle.std.specs.Prelude.{◌≡◌, List, ◌++◌, ℕ, zero, suc, ◌+◌, min, length, get_or, take, drop, slice_range}
use Rattle.io.specs.Counts.{IsPrefixLen}

-- where the list behind the one at a place begins; the end of the words where that one runs up to it or beyond
abbrev pub behind_at : List ℕ → ℕ → ℕ
behind_at xs at = min (at + 1 + get_or xs at 0) (length xs)

-- where list k begins, with its length
unfoldable pub start_of : List ℕ → ℕ → ℕ
start_of xs zero = 0
start_of xs (suc k) = behind_at xs (start_of xs k)

-- where its numbers begin; the end of the words where there is no such list
abbrev pub first_of : List ℕ → ℕ → ℕ
first_of xs k = min (start_of xs k + 1) (start_of xs (suc k))

-- the numbers of list k: what stands between its length and the next list
abbrev pub list_of : List ℕ → ℕ → List ℕ
list_of xs k = slice_range xs (first_of xs k) (start_of xs (suc k))

-- ys over the front of xs, as far as both go
abbrev pub laid_over : List ℕ → List ℕ → List ℕ
laid_over xs ys = take (length xs) ys ++ drop (length ys) xs

-- the words with ys over the front of list k
abbrev pub put_at : List ℕ → ℕ → List ℕ → List ℕ
put_at xs k ys = take (first_of xs k) xs ++ (laid_over (list_of xs k) ys ++ drop (start_of xs (suc k)) xs)

-- n numbers of ys stand over the front of what was xs
pub record Copied (ys xs : List ℕ) (n : ℕ) (now : List ℕ) : Type 0 where
  pub laid : now ≡ laid_over xs ys
  pub many : n ≡ min (length ys) (length xs)
  pub within : IsPrefixLen n now
