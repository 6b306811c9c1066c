-- What is written is read back: the tokens of lines are their numbers, and the readings of the Patterson layout take these one after the other.
use Prim.Native.Nat.{ℕ, suc, ◌-◌, ◌≤◌, ◌<◌}
use native.Mathlib.Omega.{arith}
use mathlib.Core.Path.{◌≡◌, refl, sym, ap, ◌∙◌}
use mathlib.Core.Bool.{true}
use mathlib.Core.List.{List, [], ◌∷◌, ◌++◌, map, map-append, map-map, append_assoc, append-nil}
use lib.ListN.{length}
use borrow.Author.Tests.{le-leb, ne_eqb}
use Rattle.lists.specs.Lists.{Every}
use Rattle.joblist.specs.Limits.{most_time, most_demand, most_jobs, most_resources}
use Rattle.texts.specs.Tokens.{blank, Token, number, tokens, solid_runs}
use Rattle.texts.specs.Readings.{Read, good, and_then, one, in_turn, numbers_up_to}
use Rattle.scanner.proofs.Runs.{tokens_run, tokens_over}
use Rattle.projects.specs.Projects.{Row, Project, link}
use Rattle.projects.specs.Patterson.{head, row, project, patterson}
use Rattle.parsing.proofs.Whole.{opening_good, project_good}
use Rattle.projects.specs.Form.{decimal, line_of, numbers, job_lines, project_text}
use Rattle.scribe.proofs.Writable.{WritableRow, Writable}
use Rattle.scribe.proofs.Decimals.{decimal_token, decimal_solid, decimal_some}

-- ---- tokens

-- a number and a blank behind it
pub decimal_tokens : (v b : ℕ) (rest : List ℕ) → blank b ≡ true → tokens (decimal v ++ b ∷ rest) ≡ number v ∷ tokens rest
decimal_tokens v b rest e = tokens_run (decimal v) b rest (decimal_some v) (decimal_solid v) e ∙ ap (λ (t : Token). t ∷ tokens rest) (decimal_token v)

-- numbers on a line, then more
pub line_tokens : (vs rest : List ℕ) → tokens (line_of vs ++ rest) ≡ map number vs ++ tokens rest
unfolding line_of blank
line_tokens [] rest = tokens_over 10 rest refl
line_tokens (v ∷ []) rest = rw (append_assoc (decimal v) (10 ∷ []) rest) (decimal_tokens v 10 rest refl)
line_tokens (v ∷ w ∷ vs) rest = rw (append_assoc (decimal v) (32 ∷ line_of (w ∷ vs)) rest, decimal_tokens v 32 (line_of (w ∷ vs) ++ rest) refl, line_tokens (w ∷ vs) rest)

-- the tokens of all elements, one after the other
abbrev flat : {A : Type 0} → (A → List Token) → List A → List Token
flat f [] = []
flat f (x ∷ xs) = f x ++ flat f xs

-- the tokens of a job
abbrev row_tokens : Row → List Token
row_tokens r = map number (numbers r)

jobs_tokens : (rs : List Row) → tokens (job_lines rs) ≡ flat row_tokens rs
unfolding job_lines tokens solid_runs
jobs_tokens [] = refl
jobs_tokens (r ∷ rs) = line_tokens (numbers r) (job_lines rs) ∙ rw (jobs_tokens rs)

-- ---- readings

one_back : (top code v : ℕ) (ts : List Token) → v ≤ top → one top code (number v ∷ ts) ≡ good v ts
unfolding one
one_back top code v ts h = rw (le-leb v top h)

-- several readings, where each gives back its element
in_turn_back : {A : Type 0} (f : ℕ → List Token → Read A) (put : A → List Token) (P : A → Type 0)
    → ((j : ℕ) (a : A) (ts : List Token) → P a → f j (put a ++ ts) ≡ good a ts)
    → (j : ℕ) (xs : List A) (ts : List Token) → Every P xs → in_turn f j (length xs) (flat put xs ++ ts) ≡ good xs ts
unfolding in_turn
in_turn_back f put P each j [] ts h = refl
in_turn_back f put P each j (x ∷ xs) ts h =
    rw (append_assoc (put x) (flat put xs) ts, each j x (flat put xs ++ ts) h.0, in_turn_back f put P each (suc j) xs ts h.1)

-- a token for each
flat_map : {A : Type 0} (f : A → Token) (xs : List A) → flat (λ x. f x ∷ []) xs ≡ map f xs
flat_map f [] = refl
flat_map f (x ∷ xs) = rw (flat_map f xs)

numbers_back : (top : ℕ) (vs : List ℕ) (ts : List Token) → Every (λ x. x ≤ top) vs → numbers_up_to top (length vs) (map number vs ++ ts) ≡ good vs ts
unfolding numbers_up_to
numbers_back top vs ts h =
    rw (← flat_map number vs) (in_turn_back (λ j. one top 31) (λ v. number v ∷ []) (λ x. x ≤ top) (λ j a u p. one_back top 31 a u p) 0 vs ts h)

link_back : (n s : ℕ) (ts : List Token) → s < n → link n (number (suc s) ∷ ts) ≡ good s ts
unfolding link
link_back n s ts h = let p : suc s - 1 ≡ s = omega arith in rw (one_back n 32 (suc s) ts h, ne_eqb (suc s) 0 (λ e. omega arith), p)

head_back : (n d c : ℕ) (qs : List ℕ) (ts : List Token) → d ≤ most_time → Every (λ x. x ≤ most_demand) qs → c ≤ n
    → head n (length qs) (number d ∷ (map number qs ++ number c ∷ ts)) ≡ good (record { duration = d; demands = qs; count = c }) ts
unfolding head
head_back n d c qs ts hd hq hc = rw (one_back most_time 31 d (map number qs ++ number c ∷ ts) hd, numbers_back most_demand qs (number c ∷ ts) hq, one_back n 31 c ts hc)

-- the tokens of a job, part by part
row_parts : (r : Row) (ts : List Token)
    → row_tokens r ++ ts ≡ number r.duration ∷ (map number r.demands ++ number (length r.successors) ∷ (flat (λ s. number (suc s) ∷ []) r.successors ++ ts))
row_parts r ts =
    ap (λ (u : List Token). number r.duration ∷ u)
    (rw (map-append number r.demands (length r.successors ∷ map suc r.successors), append_assoc (map number r.demands) (number (length r.successors) ∷ map number (map suc r.successors)) ts, map-map number suc r.successors, flat_map (λ s. number (suc s)) r.successors))

row_is : (n k j : ℕ) (ts : List Token)
    → row n k j ts
    ≡ and_then (head n k ts) (λ h rest. and_then (in_turn (λ i. link n) 0 h.count rest) (λ ss end. good (record { duration = h.duration; demands = h.demands; successors = ss }) end))
unfolding row head in_turn link
row_is n k j ts = refl

row_back : (n k j : ℕ) (r : Row) (ts : List Token) → WritableRow n k r → row n k j (row_tokens r ++ ts) ≡ good r ts
row_back n k j r ts w =
    rw (
      row_is n k j (row_tokens r ++ ts),
      row_parts r ts,
      ← w.demand_each,
      head_back n r.duration (length r.successors) r.demands (flat (λ s. number (suc s) ∷ []) r.successors ++ ts) w.duration w.demands w.few,
      in_turn_back (λ i. link n) (λ s. number (suc s) ∷ []) (λ s. s < n) (λ i s u h. link_back n s u h) 0 r.successors ts w.successors,
    )

-- ---- the whole text

-- its parts
pub written_is : (x : Project) → project_text x ≡ line_of (length x.rows ∷ length x.capacities ∷ []) ++ (line_of x.capacities ++ job_lines x.rows)
unfolding project_text line_of job_lines
written_is x = append_assoc (line_of (length x.rows ∷ length x.capacities ∷ [])) (line_of x.capacities) (job_lines x.rows)

written_tokens : (x : Project) → tokens (project_text x) ≡ number (length x.rows) ∷ number (length x.capacities) ∷ (map number x.capacities ++ flat row_tokens x.rows)
written_tokens x =
    ap tokens (written_is x)
    ∙ line_tokens (length x.rows ∷ length x.capacities ∷ []) (line_of x.capacities ++ job_lines x.rows)
    ∙ rw (line_tokens x.capacities (job_lines x.rows), jobs_tokens x.rows)

pub read_back : (x : Project) → Writable x → patterson (project_text x) ≡ good x []
unfolding patterson
read_back x w =
    let n = length x.rows in
    let k = length x.capacities in
    let ts = flat row_tokens x.rows in
    let t₁ = number k ∷ (map number x.capacities ++ ts) in
    let o = opening_good (number n ∷ t₁) n t₁ (one_back most_jobs 31 n t₁ w.jobs) k (map number x.capacities ++ ts)
    (one_back most_resources 31 k (map number x.capacities ++ ts) w.resources) x.capacities ts (numbers_back most_demand x.capacities ts w.capacities) in
    let rs = in_turn_back (row n k) row_tokens (WritableRow n k) (λ j r u h. row_back n k j r u h) 0 x.rows [] w.rows in
    ap project (written_tokens x)
    ∙ project_good (number n ∷ t₁) ts (record { jobs = n; resources = k; capacities = x.capacities }) o x.rows []
    (ap (in_turn (row n k) 0 n) (sym (append-nil ts)) ∙ rs) refl
