-- The headings of the PSPLIB layout (document 01, 'Library layouts'): five, in this order, each after nothing but spaces on its line.
use Rattle.std.specs.Prelude.{ℕ, zero, suc, Bool, true, false, cond, List, [], ◌∷◌, ◌++◌, eqb, length}
use Rattle.lists.specs.Tests.{both}

-- `jobs (incl. supersource/sink ):`
abbrev pub jobs_heading : List ℕ
jobs_heading = 106 ∷ 111 ∷ 98 ∷ 115 ∷ 32 ∷ 40 ∷ 105 ∷ 110 ∷ 99 ∷ 108 ∷ 46 ∷ 32 ∷ 115 ∷ 117 ∷ 112 ∷ 101 ∷ 114 ∷ 115 ∷ 111 ∷ 117 ∷ 114 ∷ 99 ∷ 101 ∷ 47 ∷ 115 ∷ 105 ∷ 110 ∷ 107 ∷ 32 ∷ 41 ∷ 58 ∷ []

-- `- renewable`
abbrev pub resources_heading : List ℕ
resources_heading = 45 ∷ 32 ∷ 114 ∷ 101 ∷ 110 ∷ 101 ∷ 119 ∷ 97 ∷ 98 ∷ 108 ∷ 101 ∷ []

-- `PRECEDENCE RELATIONS:`
abbrev pub relations_heading : List ℕ
relations_heading = 80 ∷ 82 ∷ 69 ∷ 67 ∷ 69 ∷ 68 ∷ 69 ∷ 78 ∷ 67 ∷ 69 ∷ 32 ∷ 82 ∷ 69 ∷ 76 ∷ 65 ∷ 84 ∷ 73 ∷ 79 ∷ 78 ∷ 83 ∷ 58 ∷ []

-- `REQUESTS/DURATIONS:`
abbrev pub requests_heading : List ℕ
requests_heading = 82 ∷ 69 ∷ 81 ∷ 85 ∷ 69 ∷ 83 ∷ 84 ∷ 83 ∷ 47 ∷ 68 ∷ 85 ∷ 82 ∷ 65 ∷ 84 ∷ 73 ∷ 79 ∷ 78 ∷ 83 ∷ 58 ∷ []

-- `RESOURCEAVAILABILITIES:`
abbrev pub capacities_heading : List ℕ
capacities_heading = 82 ∷ 69 ∷ 83 ∷ 79 ∷ 85 ∷ 82 ∷ 67 ∷ 69 ∷ 65 ∷ 86 ∷ 65 ∷ 73 ∷ 76 ∷ 65 ∷ 66 ∷ 73 ∷ 76 ∷ 73 ∷ 84 ∷ 73 ∷ 69 ∷ 83 ∷ 58 ∷ []

-- in their order
abbrev pub headings : List (List ℕ)
headings = jobs_heading ∷ resources_heading ∷ relations_heading ∷ requests_heading ∷ capacities_heading ∷ []

-- the text starts with these bytes
unfoldable pub starts_with : List ℕ → List ℕ → Bool
starts_with [] s = true
starts_with (w ∷ ws) [] = false
starts_with (w ∷ ws) (b ∷ s) = both (eqb b w) (starts_with ws s)

-- the text without the spaces that it starts with
unfoldable pub unspaced : List ℕ → List ℕ
unspaced [] = []
unspaced (b ∷ s) = cond (eqb b 32) (unspaced s) (b ∷ s)

-- a heading found: its number from 0, and the text from it on
pub record Mark : Type 0 where
  pub which : ℕ
  pub from : List ℕ

-- which of the headings, numbered from k, the text starts with
unfoldable pub mark_of : ℕ → List (List ℕ) → List ℕ → List Mark
unfolding starts_with
mark_of k [] s = []
mark_of k (h ∷ hs) s = cond (starts_with h s) (record { which = k; from = s } ∷ []) (mark_of (suc k) hs s)

-- the heading of the line that the text starts with
unfoldable pub line_mark : List ℕ → List Mark
unfolding mark_of unspaced
line_mark s = mark_of 0 headings (unspaced s)

-- the headings of the lines behind each line feed
unfoldable pub later_marks : List ℕ → List Mark
unfolding line_mark
later_marks [] = []
later_marks (b ∷ s) = cond (eqb b 10) (line_mark s ++ later_marks s) (later_marks s)

-- the headings of all lines, in text order
unfoldable pub marks : List ℕ → List Mark
unfolding line_mark later_marks
marks s = line_mark s ++ later_marks s

-- they are those from number k on, each once and in order
unfoldable pub in_order : ℕ → List Mark → Bool
in_order k [] = eqb k (length headings)
in_order k (m ∷ ms) = both (eqb m.which k) (in_order (suc k) ms)

-- the text from the k-th of them on
unfoldable pub section : ℕ → List Mark → List ℕ
section k [] = []
section zero (m ∷ ms) = m.from
section (suc k) (m ∷ ms) = section k ms
