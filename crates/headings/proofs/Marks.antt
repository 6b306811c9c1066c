-- The headings of a text line by line, and that each next line leaves less of the text.
use Prim.Native.Nat.{ℕ, suc, ◌-◌, ◌≤◌, ◌<◌}
use native.Mathlib.Omega.{arith}
use mathlib.Core.Path.{◌≡◌, refl, ap}
use mathlib.Core.Bool.{Bool, true, false, cond}
use mathlib.Core.List.{List, [], ◌∷◌, ◌++◌}
use lib.Dec.{eqb}
use lib.ListN.{length, drop, length-drop}
use Rattle.headings.specs.Lines.{behind, next_line}
use Rattle.headings.specs.Headings.{headings, starts_with, unspaced, Mark, mark_of, line_mark, later_marks, marks}

pub marks_none : marks [] ≡ []
unfolding marks
marks_none = refl

-- the headings of later lines are those of the text behind the first line
later_is : (s : List ℕ) → later_marks s ≡ marks (next_line s)
unfolding later_marks marks behind
later_is [] = refl
later_is (b ∷ s) = go (eqb b 10) (later_is s)
  where
    go : (t : Bool) → later_marks s ≡ marks (next_line s) → cond t (line_mark s ++ later_marks s) (later_marks s) ≡ marks (cond t s (next_line s))
    go true e = refl
    go false e = e

pub marks_split : (s : List ℕ) → marks s ≡ line_mark s ++ marks (next_line s)
unfolding marks
marks_split s = ap (λ (ms : List Mark). line_mark s ++ ms) (later_is s)

-- one heading tried: it is passed over, or it is the one
module _ (k : ℕ) (h : List ℕ) (hs : List (List ℕ)) (t : List ℕ) where
  pub mark_past : starts_with h t ≡ false → mark_of k (h ∷ hs) t ≡ mark_of (suc k) hs t
  unfolding mark_of
  mark_past e = rw e

  pub mark_here : starts_with h t ≡ true → mark_of k (h ∷ hs) t ≡ record { which = k; from = t } ∷ []
  unfolding mark_of
  mark_here e = rw e

-- spaces in front of a heading do not matter
pub line_mark_lem : (s t : List ℕ) (ms : List Mark) → t ≡ unspaced s → mark_of 0 headings t ≡ ms → line_mark s ≡ ms
unfolding line_mark
line_mark_lem s t ms e q = rw (← e) q

next_less : (s : List ℕ) → length (next_line s) ≤ length s - 1
unfolding behind
next_less [] = omega arith
next_less (b ∷ s) = go (eqb b 10) (next_less s)
  where
    go : (t : Bool) → length (next_line s) ≤ length s - 1 → length (cond t s (next_line s)) ≤ suc (length s) - 1
    go true k = omega arith
    go false k = omega arith

-- a line that is left has a byte at least, its line feed if no other
pub next_falls : (s : List ℕ) (at to : ℕ) → at < length s → drop to s ≡ next_line (drop at s) → length s - to < length s - at
next_falls s at to h e = omega (arith, length-drop at s, length-drop to s, ap length e, next_less (drop at s))
