-- A function that two lists keep, with a level that it nowhere passes; and what is made of it.
use Rattle.std.specs.Prelude.{ℕ, ◌+◌, ◌≤◌, ◌<◌, ◌≡◌, List, length}
use Rattle.profile.specs.Steps.{behind_all, Points, Levels}
use Rattle.profile.specs.Raises.{raised, most_level, Low}
use Rattle.profile.specs.declared.kept.Outline.{Outline}

-- the lists keep f, which nowhere passes the peak
pub record Keeps (f : ℕ → ℕ) (ts ld : List ℕ) (k : Outline) : Type 0 where
  pub points : Points ts ld k.m
  pub levels : Levels ts ld k.m f
  pub peak : (t : ℕ) → f t ≤ k.peak

-- the function that is 0 everywhere
pub record Starts (ts us ls : List ℕ) (k : Outline) : Type 0 where
  pub size : length us ≡ length ts
  pub one : k.m ≡ 1
  pub keeps : Keeps (λ t. 0) us ls k

-- lists of k with room for two points more; hi, the levels and r are not too large
pub record Growable (ts ld : List ℕ) (k : Outline) (hi r : ℕ) : Type 0 where
  pub points : Points ts ld k.m
  pub room : k.m + 2 < length ts
  pub near : hi < behind_all
  pub low : Low ld k.m most_level
  pub small : r ≤ most_level

-- each function that was kept, raised by r from lo up to hi; at most two points more
pub record Grows (ts ld : List ℕ) (k : Outline) (lo hi r : ℕ) (us ls : List ℕ) (n : Outline) : Type 0 where
  pub size : length us ≡ length ts
  pub few : n.m ≤ k.m + 2
  pub keeps : (f : ℕ → ℕ) → Keeps f ts ld k → Keeps (raised f lo hi r) us ls n
