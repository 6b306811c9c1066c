-- A function raised by r from lo up to hi, and the steps of raising what the lists keep: a place opened in a list, a point put at a time, the levels of
-- some points lifted.
use Rattle.std.specs.Prelude.{ℕ, ◌+◌, ◌≤◌, ◌<◌, ◌≡◌, List, length}
use Rattle.lists.specs.Lists.{◌!◌}
use Rattle.lists.specs.Tests.{between, only}
use Rattle.profile.specs.Steps.{Points, Levels}

-- f raised by r from lo up to hi
abbrev pub raised : (ℕ → ℕ) → ℕ → ℕ → ℕ → ℕ → ℕ
raised f lo hi r t = f t + only (between lo hi t) r

-- ys is xs with v put in at place i: what stood there and behind it, below m, stands one place further
pub record PutIn (xs : List ℕ) (i m v : ℕ) (ys : List ℕ) : Type 0 where
  pub size : length ys ≡ length xs
  pub before : (q : ℕ) → q < i → ys ! q ≡ xs ! q
  pub here : ys ! i ≡ v
  pub behind : (q : ℕ) → i ≤ q → q < m → ys ! (q + 1) ≡ xs ! q

-- none of the m levels is above b
abbrev pub Low : List ℕ → ℕ → ℕ → Type 0
Low ld m b = (i : ℕ) → i < m → ld ! i ≤ b

-- a point at x, at place `at` of now n points: the lists keep the same functions, and points before x stay where they are
pub record CutAt (ts ld : List ℕ) (m x : ℕ) (us ls : List ℕ) (n at : ℕ) : Type 0 where
  pub points : Points us ls n
  pub size : length us ≡ length ts
  pub many : m ≤ n
  pub few : n ≤ m + 1
  pub listed : at < n
  pub here : us ! at ≡ x
  pub stay : (q : ℕ) → q < m → ts ! q < x → us ! q ≡ ts ! q
  pub low : (b : ℕ) → Low ld m b → Low ls n b
  pub levels : (f : ℕ → ℕ) → Levels ts ld m f → Levels us ls n f

-- the levels from place i up to place k lifted by r, and `top` at least each of them
pub record Lifted (ld : List ℕ) (i k r : ℕ) (ls : List ℕ) (top : ℕ) : Type 0 where
  pub size : length ls ≡ length ld
  pub before : (q : ℕ) → q < i → ls ! q ≡ ld ! q
  pub inside : (q : ℕ) → i ≤ q → q < k → ls ! q ≡ ld ! q + r
  pub behind : (q : ℕ) → k ≤ q → ls ! q ≡ ld ! q
  pub most : (q : ℕ) → i ≤ q → q < k → ls ! q ≤ top

-- levels and raises are at most this, so that their sum is a number of 32 bits
abbrev pub most_level : ℕ
most_level = 1000000000
