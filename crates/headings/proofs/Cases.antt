-- Small texts, computed from the definitions: the headings of their lines, and the number behind a line's colon. A text stands in the line above its
-- bytes.
use Prim.Native.Nat.{ℕ}
use mathlib.Core.Path.{◌≡◌, refl}
use mathlib.Core.Bool.{true, false}
use mathlib.Core.List.{List, [], ◌∷◌, ◌++◌}
use Rattle.texts.specs.Tokens.{number, other, tokens}
use Rattle.texts.specs.Readings.{bad, good, one}
use Rattle.headings.specs.Lines.{behind_lines, counted}
use Rattle.headings.specs.Headings.{jobs_heading, resources_heading, relations_heading, requests_heading, capacities_heading, marks, in_order, section}

-- ---- the heading of a line

-- behind spaces, with more on its line: `  - renewable: 4`
pub after_spaces : marks (32 ∷ 32 ∷ 45 ∷ 32 ∷ 114 ∷ 101 ∷ 110 ∷ 101 ∷ 119 ∷ 97 ∷ 98 ∷ 108 ∷ 101 ∷ 58 ∷ 32 ∷ 52 ∷ []) ≡ record { which = 1; from = 45 ∷ 32 ∷ 114 ∷ 101 ∷ 110 ∷ 101 ∷ 119 ∷ 97 ∷ 98 ∷ 108 ∷ 101 ∷ 58 ∷ 32 ∷ 52 ∷ [] } ∷ []
unfolding marks
after_spaces = refl

-- behind a tab there is none: `\t- renewable`
pub after_tab : marks (9 ∷ 45 ∷ 32 ∷ 114 ∷ 101 ∷ 110 ∷ 101 ∷ 119 ∷ 97 ∷ 98 ∷ 108 ∷ 101 ∷ []) ≡ []
unfolding marks
after_tab = refl

-- in the middle of a line there is none: `x - renewable`
pub mid_line : marks (120 ∷ 32 ∷ 45 ∷ 32 ∷ 114 ∷ 101 ∷ 110 ∷ 101 ∷ 119 ∷ 97 ∷ 98 ∷ 108 ∷ 101 ∷ []) ≡ []
unfolding marks
mid_line = refl

-- another word: `- nonrenewable`
pub non_renewable : marks (45 ∷ 32 ∷ 110 ∷ 111 ∷ 110 ∷ 114 ∷ 101 ∷ 110 ∷ 101 ∷ 119 ∷ 97 ∷ 98 ∷ 108 ∷ 101 ∷ []) ≡ []
unfolding marks
non_renewable = refl

-- the text ends inside it: `- renewabl`
pub cut_short : marks (45 ∷ 32 ∷ 114 ∷ 101 ∷ 110 ∷ 101 ∷ 119 ∷ 97 ∷ 98 ∷ 108 ∷ []) ≡ []
unfolding marks
cut_short = refl

-- on a line behind a carriage return and a line feed: `x\r\n- renewable`
pub after_crlf : marks (120 ∷ 13 ∷ 10 ∷ 45 ∷ 32 ∷ 114 ∷ 101 ∷ 110 ∷ 101 ∷ 119 ∷ 97 ∷ 98 ∷ 108 ∷ 101 ∷ []) ≡ record { which = 1; from = 45 ∷ 32 ∷ 114 ∷ 101 ∷ 110 ∷ 101 ∷ 119 ∷ 97 ∷ 98 ∷ 108 ∷ 101 ∷ [] } ∷ []
unfolding marks
after_crlf = refl

-- a carriage return alone ends no line: `x\r- renewable`
pub after_cr : marks (120 ∷ 13 ∷ 45 ∷ 32 ∷ 114 ∷ 101 ∷ 110 ∷ 101 ∷ 119 ∷ 97 ∷ 98 ∷ 108 ∷ 101 ∷ []) ≡ []
unfolding marks
after_cr = refl

-- ---- all five, one line each

-- each with its line feed
abbrev lines : List (List ℕ) → List ℕ
lines [] = []
lines (l ∷ ls) = l ++ 10 ∷ lines ls

pub five : in_order 0 (marks (lines (jobs_heading ∷ resources_heading ∷ relations_heading ∷ requests_heading ∷ capacities_heading ∷ []))) ≡ true
unfolding marks in_order
five = refl

-- with lines between them that have none: ` x`, ``
pub five_apart : in_order 0 (marks (lines (jobs_heading ∷ (32 ∷ 120 ∷ []) ∷ resources_heading ∷ [] ∷ relations_heading ∷ requests_heading ∷ capacities_heading ∷ []))) ≡ true
unfolding marks in_order
five_apart = refl

pub twice : in_order 0 (marks (lines (jobs_heading ∷ resources_heading ∷ relations_heading ∷ requests_heading ∷ capacities_heading ∷ capacities_heading ∷ []))) ≡ false
unfolding marks in_order
twice = refl

pub swapped : in_order 0 (marks (lines (jobs_heading ∷ relations_heading ∷ resources_heading ∷ requests_heading ∷ capacities_heading ∷ []))) ≡ false
unfolding marks in_order
swapped = refl

pub missing : in_order 0 (marks (lines (jobs_heading ∷ resources_heading ∷ relations_heading ∷ requests_heading ∷ []))) ≡ false
unfolding marks in_order
missing = refl

pub last_section : section 4 (marks (lines (jobs_heading ∷ resources_heading ∷ relations_heading ∷ requests_heading ∷ (32 ∷ capacities_heading) ∷ []))) ≡ capacities_heading ++ 10 ∷ []
unfolding marks section
last_section = refl

-- ---- the number of a line

-- with more behind it: `- renewable : 4 R`
pub a_count : counted 8 (45 ∷ 32 ∷ 114 ∷ 101 ∷ 110 ∷ 101 ∷ 119 ∷ 97 ∷ 98 ∷ 108 ∷ 101 ∷ 32 ∷ 58 ∷ 32 ∷ 52 ∷ 32 ∷ 82 ∷ []) ≡ good 4 (other ∷ [])
unfolding counted one tokens
a_count = refl

-- behind the first colon of two: `a: 1 : 2`
pub first_colon : counted 8 (97 ∷ 58 ∷ 32 ∷ 49 ∷ 32 ∷ 58 ∷ 32 ∷ 50 ∷ []) ≡ good 1 (other ∷ number 2 ∷ [])
unfolding counted one tokens
first_colon = refl

-- no colon: `a 4`
pub no_colon : counted 8 (97 ∷ 32 ∷ 52 ∷ []) ≡ bad 30
unfolding counted one tokens
no_colon = refl

-- the colon on the next line: `a\n: 4`
pub next_line_colon : counted 8 (97 ∷ 10 ∷ 58 ∷ 32 ∷ 52 ∷ []) ≡ bad 30
unfolding counted one tokens
next_line_colon = refl

-- the number on the next line: `a:\n4`
pub next_line_number : counted 8 (97 ∷ 58 ∷ 10 ∷ 52 ∷ []) ≡ bad 30
unfolding counted one tokens
next_line_number = refl

-- above the limit: `a: 9`
pub too_large : counted 8 (97 ∷ 58 ∷ 32 ∷ 57 ∷ []) ≡ bad 31
unfolding counted one tokens
too_large = refl

-- two lines passed over, one of them empty: `a\n\nb`
pub two_lines : behind_lines 2 (97 ∷ 10 ∷ 10 ∷ 98 ∷ []) ≡ 98 ∷ []
unfolding behind_lines
two_lines = refl

-- more lines than there are: `a`
pub past_the_end : behind_lines 2 (97 ∷ []) ≡ []
unfolding behind_lines
past_the_end = refl
