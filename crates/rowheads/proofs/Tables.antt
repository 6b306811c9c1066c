-- The rows of PSPLIB's two tables of jobs as the walk reads them: the successors, or the duration and the demands, as a row that lacks the rest. So what the
-- walk has read of such a table is what the table says.
use Prim.Native.Nat.{ℕ, ◌≤◌}
use mathlib.Core.Path.{◌≡◌, refl, ap, ◌∙◌}
use mathlib.Core.List.{List, [], map}
use lib.ListN.{length}
use Rattle.joblist.specs.Limits.{most_time, most_demand}
use Rattle.texts.specs.Tokens.{Token}
use Rattle.texts.specs.Readings.{Read, bad, good, and_then, one, in_turn, numbers_up_to}
use Rattle.texts.proofs.Readings.{said, in_turn_said}
use Rattle.projects.specs.Projects.{Row, headed, link}
use Rattle.projects.specs.Tables.{numbered, relation, Need, request}
use Rattle.rowheads.specs.Heads.{need_head, with_count, bare, relation_head, request_head, head_in, row_in}
use Rattle.rowheads.specs.declared.Table.TheVariants.{Relations, Requests}
use Rattle.rowheads.proofs.Takes.{OfText, Limited, row_takes, row_codes}

-- a row of successors alone, and one of needs alone
abbrev pub linked : List ℕ → Row
linked ss = record { duration = 0; demands = []; successors = ss }

abbrev pub needed : Need → Row
needed q = record { duration = q.duration; demands = q.demands; successors = [] }

relation_row : (n j : ℕ) (ts : List Token) → row_in Relations n j ts ≡ said linked (relation n j ts)
unfolding row_in head_in headed relation_head with_count relation
relation_row n j ts = go (numbered j ts)
  where
    last : (r : Read (List ℕ)) → and_then r (λ ss end. good (linked ss) end) ≡ said linked r
    last (bad c) = refl
    last (good ss end) = refl

    counts : (r : Read ℕ)
        → headed n (and_then r (λ c t. good (record { duration = 0; demands = []; count = c }) t)) ≡ said linked (and_then r (λ c t. in_turn (λ i. link n) 0 c t))
    counts (bad c) = refl
    counts (good c t) = last (in_turn (λ i. link n) 0 c t)

    go : (r : Read ℕ) → headed n (and_then r (λ a t. with_count n bare t)) ≡ said linked (and_then r (λ a t₁. and_then (one n 31 t₁) (λ c t₂. in_turn (λ i. link n) 0 c t₂)))
    go (bad c) = refl
    go (good a t) = counts (one n 31 t)

request_row : (n k j : ℕ) (ts : List Token) → row_in (Requests k) n j ts ≡ said needed (request k j ts)
unfolding row_in head_in headed request_head need_head request in_turn
request_row n k j ts = go (numbered j ts)
  where
    demands : (d : ℕ) (r : Read (List ℕ))
        → headed n (and_then r (λ qs t. good (record { duration = d; demands = qs; count = 0 }) t)) ≡ said needed (and_then r (λ qs t. good (record { duration = d; demands = qs }) t))
    demands d (bad c) = refl
    demands d (good qs t) = refl

    durations : (r : Read ℕ)
        → headed n (and_then r (λ d t₂. and_then (numbers_up_to most_demand k t₂) (λ qs t₃. good (record { duration = d; demands = qs; count = 0 }) t₃)))
        ≡ said needed (and_then r (λ d t₂. and_then (numbers_up_to most_demand k t₂) (λ qs t₃. good (record { duration = d; demands = qs }) t₃)))
    durations (bad c) = refl
    durations (good d t) = demands d (numbers_up_to most_demand k t)

    go : (r : Read ℕ) → headed n (and_then r (λ a t. need_head k t))
        ≡ said needed (and_then r (λ a t₁. and_then (one most_time 31 t₁) (λ d t₂. and_then (numbers_up_to most_demand k t₂) (λ qs t₃. good (record { duration = d; demands = qs }) t₃))))
    go (bad c) = refl
    go (good a t) = durations (one most_time 31 t)

-- ---- whole tables

pub relations_said : (n : ℕ) (ts : List Token) → in_turn (row_in Relations n) 0 n ts ≡ said (map linked) (in_turn (relation n) 0 n ts)
relations_said n ts = in_turn_said linked (relation n) (row_in Relations n) (relation_row n) 0 n ts

pub requests_said : (n k : ℕ) (ts : List Token) → in_turn (row_in (Requests k) n) 0 n ts ≡ said (map needed) (in_turn (request k) 0 n ts)
requests_said n k ts = in_turn_said needed (request k) (row_in (Requests k) n) (request_row n k) 0 n ts

-- ---- what a row takes, and its refusals

pub relation_within : (n j : ℕ) (ts rest : List Token) (ss : List ℕ) → relation n j ts ≡ good ss rest → Limited n (linked ss) × (length rest ≤ length ts)
relation_within n j ts rest ss e = row_takes Relations n j ts rest (linked ss) (relation_row n j ts ∙ ap (said linked) e)

pub request_within : (n k j : ℕ) (ts rest : List Token) (q : Need) → request k j ts ≡ good q rest → Limited n (needed q) × (length rest ≤ length ts)
request_within n k j ts rest q e = row_takes (Requests k) n j ts rest (needed q) (request_row n k j ts ∙ ap (said needed) e)

pub relation_code : (n j c : ℕ) (ts : List Token) → relation n j ts ≡ bad c → OfText c
relation_code n j c ts e = row_codes Relations n j c ts (relation_row n j ts ∙ ap (said linked) e)

pub request_code : (k j c : ℕ) (ts : List Token) → request k j ts ≡ bad c → OfText c
request_code k j c ts e = row_codes (Requests k) 0 j c ts (request_row 0 k j ts ∙ ap (said needed) e)
