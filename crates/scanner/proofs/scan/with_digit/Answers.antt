-- `scanner::scan::with_digit` meets its contract: a digit's byte is 48 or more.
use native.Mathlib.Omega.{arith}
use Rattle.scanner.proofs.Numbers.{digit_bounds}
use Rattle.scanner.proofs.scan.with_digit.Goals as goal

pub overflow_sub-b : goal.overflow_sub-b
overflow_sub-b c = omega (arith, digit_bounds _ c.requires.1)
