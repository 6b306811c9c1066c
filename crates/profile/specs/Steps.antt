-- A step function of time, kept in two lists: points that rise from 0 on, with `behind_all` behind the last one, and beside each point the level of the
-- function from it up to the next.
use Rattle.std.specs.Prelude.{ℕ, ◌+◌, ◌≤◌, ◌<◌, ◌≡◌, List, length}
use Rattle.lists.specs.Lists.{◌!◌}

-- behind every time in use
abbrev pub behind_all : ℕ
behind_all = 2147483647

-- m points in ts: they rise from 0 on, and `behind_all` stands behind the last
pub record Grid (ts : List ℕ) (m : ℕ) : Type 0 where
  pub some : 1 ≤ m
  pub inside : m < length ts
  pub start : ts ! 0 ≡ 0
  pub end : ts ! m ≡ behind_all
  pub rises : (i : ℕ) → i < m → ts ! i < ts ! (i + 1)

-- and as many places for levels in ld
pub record Points (ts ld : List ℕ) (m : ℕ) : Type 0 where
  pub grid : Grid ts m
  pub beside : length ld ≡ length ts

-- from each point up to the next the function f is the level beside it
abbrev pub Levels : List ℕ → List ℕ → ℕ → (ℕ → ℕ) → Type 0
Levels ts ld m f = (i t : ℕ) → i < m → ts ! i ≤ t → t < ts ! (i + 1) → ld ! i ≡ f t

-- the time x lies from point i up to the next
pub record Piece (ts : List ℕ) (m x i : ℕ) : Type 0 where
  pub listed : i < m
  pub from : ts ! i ≤ x
  pub to : x < ts ! (i + 1)
