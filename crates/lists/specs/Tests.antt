-- Tests, and what is picked by them. A test is a Bool; the fact that it stands for is a type of its own.
use Rattle.std.specs.Prelude.{ℕ, zero, suc, Bool, true, false, leb, ltb}

-- both tests pass
abbrev pub both : Bool → Bool → Bool
both true b = b
both false b = false

-- one of the two passes
abbrev pub either : Bool → Bool → Bool
either true b = true
either false b = b

-- b is asked only where a passes
abbrev pub where? : Bool → Bool → Bool
where? true b = b
where? false b = true

-- lo ≤ t < hi
abbrev pub between : ℕ → ℕ → ℕ → Bool
between lo hi t = both (leb lo t) (ltb t hi)

-- x where the test passes, else 0
abbrev pub only : Bool → ℕ → ℕ
only true x = x
only false x = 0

-- x where the test passes, else y
abbrev pub pick : Bool → ℕ → ℕ → ℕ
pick true x y = x
pick false x y = y

-- the number k where the test fails, else what comes after: the first test that fails gives its number
abbrev pub unless : Bool → ℕ → ℕ → ℕ
unless true k x = x
unless false k x = k

-- the number k of a test that failed before, else, where k is 0, what comes after
abbrev pub failed_or : ℕ → ℕ → ℕ
failed_or zero x = x
failed_or (suc k) x = suc k

-- the test passes at every k below m
unfoldable pub every : (ℕ → Bool) → ℕ → Bool
every f zero = true
every f (suc m) = both (f m) (every f m)

-- the test passes at some k below m
unfoldable pub some? : (ℕ → Bool) → ℕ → Bool
some? f zero = false
some? f (suc m) = let x = some? f m in either (f m) x
