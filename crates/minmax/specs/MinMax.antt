-- The lesser and the greater of two numbers.
use Rattle.std.specs.Prelude.{ℕ, ◌≤◌, ◌<◌, ◌≡◌}

-- r is the lesser of x and y
abbrev pub IsLesser : ℕ → ℕ → ℕ → Type 0
IsLesser x y r = (r ≤ x) × (r ≤ y) × (x < y → r ≡ x) × (y ≤ x → r ≡ y)

-- r is the greater of x and y
abbrev pub IsGreater : ℕ → ℕ → ℕ → Type 0
IsGreater x y r = (x ≤ r) × (y ≤ r) × (x < y → r ≡ y) × (y ≤ x → r ≡ x)
