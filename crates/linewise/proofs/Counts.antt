-- The number behind a line's colon, where code finds it; and lines passed over one by one.
use Prim.Native.Nat.{ℕ, suc, ◌+◌, ◌-◌, ◌<◌}
use native.Mathlib.Omega.{arith}
use mathlib.Core.Path.{◌≡◌, sym, ap, ◌∙◌}
use mathlib.Core.List.{List}
use lib.ListN.{drop, take}
use Rattle.texts.specs.Tokens.{tokens}
use Rattle.texts.specs.Readings.{one}
use Rattle.headings.specs.Lines.{behind, next_line, behind_lines, counted}
use Rattle.linewise.specs.Says.{LineTo}

-- on the part of the text that ends with the line
pub counted_part : (top : ℕ) (s : List ℕ) (at end from : ℕ) → LineTo s at end → drop from (take end s) ≡ behind 58 (drop at (take end s))
    → counted top (drop at s) ≡ one top 31 (tokens (drop from (take end s)))
unfolding counted
counted_part top s at end from l e = ap (λ (t : List ℕ). one top 31 (tokens t)) (sym (e ∙ ap (behind 58) l.same))

-- ---- lines

pub lines_none : (m : ℕ) (s : List ℕ) → m ≡ 0 → s ≡ behind_lines m s
unfolding behind_lines
lines_none m s e = rw e

pub lines_step : (m k : ℕ) (s t : List ℕ) → k < m → t ≡ next_line s → behind_lines (m - k) s ≡ behind_lines (m - (k + 1)) t
unfolding behind_lines
lines_step m k s t h e = let z : m - k ≡ suc (m - (k + 1)) = omega (arith, h) in rw (z, e)
