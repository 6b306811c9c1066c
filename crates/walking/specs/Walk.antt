-- The rows of a text as code walks them: what is left at a place among them, and what the functions of this crate say. Durations and demands are
-- kept in arrays for one resource; pairs are met one by one.
use Rattle.std.specs.Prelude.{ℕ, ◌+◌, ◌-◌, ◌*◌, ◌≤◌, ◌<◌, ◌≡◌, List, [], ◌∷◌, ◌++◌, length, drop, take, Result, Ok, Err}
use Rattle.lists.specs.Lists.{◌!◌}
use Rattle.answers.specs.declared.reasons.Refusal.{Refusal}
use Rattle.answers.specs.Said.{number_of}
use Rattle.joblist.specs.Limits.{most_time, most_jobs}
use Rattle.chains.specs.Paths.{Pair, pair, Precedes, Below}
use Rattle.texts.specs.Tokens.{Token, tokens}
use Rattle.texts.specs.Readings.{Read, bad, good, and_then, in_turn}
use Rattle.projects.specs.Projects.{link, tagged, pairs_from, durations, demands_on}
use Rattle.rowheads.specs.Heads.{row_in}
use Rattle.rowheads.specs.declared.Table.{Table}
use Rattle.walking.specs.declared.Walk.{Walk}
use Rattle.walking.specs.declared.Step.{Step}
use Rattle.walking.specs.declared.Step.TheVariants.{Successor, Begun, Done}
use Rattle.walking.specs.declared.Walked.{Walked}

-- what rows say of one resource
pub record Seen : Type 0 where
  pub durs : List ℕ
  pub dems : List ℕ
  pub pairs : List Pair

-- what is left: `left` successors of job next - 1, then the rows from `next` on
unfoldable pub seeing : ℕ → Table → ℕ → ℕ → ℕ → List Token → Read Seen
unfolding in_turn link row_in pairs_from
seeing n table res next left ts =
    and_then (in_turn (λ i. link n) 0 left ts) (λ ss t₁.
    and_then (in_turn (row_in table n) next (n - next) t₁) (λ rs t₂.
    good (record { durs = durations rs; dems = demands_on res rs; pairs = tagged (next - 1) ss ++ pairs_from next rs }) t₂))

-- the same with a pair more, and with a row more, in front
abbrev pub add_pair : Pair → Read Seen → Read Seen
add_pair p (bad c) = bad c
add_pair p (good x ts) = good (record { durs = x.durs; dems = x.dems; pairs = p ∷ x.pairs }) ts

abbrev pub add_row : ℕ → ℕ → Read Seen → Read Seen
add_row d q (bad c) = bad c
add_row d q (good x ts) = good (record { durs = d ∷ x.durs; dems = q ∷ x.dems; pairs = x.pairs }) ts

-- what is left at a place of the walk
abbrev pub see : ℕ → Table → ℕ → List ℕ → Walk → Read Seen
see n table res s w = seeing n table res w.next w.left (tokens (drop w.at s))

-- successors are left only of rows that were begun, at most most_jobs of each
pub record Fit (n : ℕ) (w : Walk) : Type 0 where
  pub begun : w.next ≤ n
  pub owned : w.left ≤ most_jobs * w.next

-- fewer tokens are left at u than at w
abbrev pub Further : List ℕ → Walk → Walk → Type 0
Further s w u = length (tokens (drop u.at s)) < length (tokens (drop w.at s))

-- a step's answer: what is left before it, by what is left behind it
abbrev pub StepSays : ℕ → Table → ℕ → List ℕ → Walk → Result Step Refusal → Type 0
StepSays n table res s w (Ok (Successor v u)) =
    (see n table res s w ≡ add_pair (pair (w.next - 1) v) (see n table res s u)) × Fit n u × Further s w u × (v < n) × (u.next ≡ w.next) × (w.left ≡ u.left + 1)
StepSays n table res s w (Ok (Begun d q u)) =
    (see n table res s w ≡ add_row d q (see n table res s u)) × Fit n u × Further s w u × (d ≤ most_time) × (w.left ≡ 0) × (u.next ≡ w.next + 1) × (u.left ≤ most_jobs)
StepSays n table res s w (Ok Done) = (see n table res s w ≡ good (record { durs = []; dems = []; pairs = [] }) (tokens (drop w.at s))) × (w.next ≡ n)
StepSays n table res s w (Err c) = see n table res s w ≡ bad (number_of c)

-- the rows read: durations and demands stand in the first n places, and nowhere is a duration above its limit
abbrev pub WalkedSays : Read Seen → List ℕ → ℕ → Result Walked Refusal → Type 0
WalkedSays r s n (Ok w) =
    (x : Seen) × (r ≡ good x (tokens (drop w.at s))) × (x.durs ≡ take n w.dur) × (x.dems ≡ take n w.dem) × (length x.pairs ≡ w.pairs) × Below n (Precedes x.pairs)
    × (length w.dur ≡ most_jobs) × (length w.dem ≡ most_jobs) × ((j : ℕ) → w.dur ! j ≤ most_time)
WalkedSays r s n (Err c) = r ≡ bad (number_of c)
