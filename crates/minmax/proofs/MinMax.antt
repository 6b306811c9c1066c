-- The lesser and the greater of two numbers are the library's min and max.
use Rattle.std.proofs.Common.{ℕ, arith}
use Rattle.std.specs.Prelude.{min, max}
use Rattle.minmax.specs.MinMax.{IsLesser, IsGreater}

pub min-is_lesser : (x y : ℕ) → IsLesser x y (min x y)
min-is_lesser x y = (omega arith, omega arith, λ h. omega arith, λ h. omega arith)

pub max-is_greater : (x y : ℕ) → IsGreater x y (max x y)
max-is_greater x y = (omega arith, omega arith, λ h. omega arith, λ h. omega arith)
