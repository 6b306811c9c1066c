-- When a PSPLIB text is refused, in facts: its headings; one of the two counts; a row or a number of one of the three tables, those before it good. What
-- makes a row one that is refused stands in `projects: Exactly`, numbers and several readings one after the other in `texts: Exactly` and `texts: Given`.
use Prim.Native.Nat.{ℕ, ◌<◌}
use native.Mathlib.Omega.{arith}
use mathlib.Core.Path.{◌≡◌, refl, sym, ap}
use mathlib.Core.Bool.{Bool, true, false, cond}
use mathlib.Core.List.{List, [], ◌∷◌, map}
use mathlib.Core.Logic.{◌⊎◌, inl, inr, ◌↔◌}
use Rattle.lists.proofs.Sets.{clash}
use Rattle.joblist.specs.Limits.{most_demand, most_jobs, most_resources}
use Rattle.texts.specs.Tokens.{tokens}
use Rattle.texts.specs.Readings.{Read, bad, in_turn, numbers_up_to}
use Rattle.texts.proofs.Exactly.{OneRefused, First, first_refused, last_refused, Behind, in_turn_refused, NumbersRefused, numbers_refused}
use Rattle.headings.specs.Lines.{line, behind, behind_lines, counted}
use Rattle.headings.specs.Headings.{Mark, marks, in_order, section}
use Rattle.headings.proofs.Facts.{in_order_which, counted_refused}
use Rattle.projects.specs.Projects.{Project}
use Rattle.projects.specs.Tables.{relation, request}
use Rattle.projects.proofs.Exactly.{RelationRefused, relation_refused, RequestRefused, request_refused}
use Rattle.rowheads.proofs.Takes.{OfText}
use Rattle.psplib.specs.Psplib.{join, tables, sections, psplib}
use Rattle.psplib.proofs.Limits.{sections_codes, psplib_codes}

-- the headings of the text's lines are the five, each once and in order
abbrev pub Headed : List ℕ → Type 0
Headed s = map (λ (m : Mark). m.which) (marks s) ≡ 0 ∷ 1 ∷ 2 ∷ 3 ∷ 4 ∷ []

-- the number after the colon of the line: 30 where none stands there, 31 where it is above its limit
abbrev pub CountRefused : ℕ → ℕ → List ℕ → Type 0
CountRefused top c s = OneRefused top 31 c (tokens (behind 58 (line s)))

-- a row of relations, a row of requests, a capacity
abbrev pub TablesRefused : ℕ → ℕ → List ℕ → List ℕ → List ℕ → ℕ → Type 0
TablesRefused n k relations requests capacities c =
    First (Behind (relation n) (RelationRefused n c) 0 n (tokens (behind_lines 2 relations))) (in_turn (relation n) 0 n (tokens (behind_lines 2 relations))) (λ sss t₁.
    First (Behind (request k) (RequestRefused k c) 0 n (tokens (behind_lines 3 requests))) (in_turn (request k) 0 n (tokens (behind_lines 3 requests))) (λ qs t₂.
    NumbersRefused most_demand k c (tokens (behind_lines 2 capacities))))

-- a count, or a table behind both
abbrev pub SectionsRefused : (ℕ → List ℕ) → ℕ → Type 0
SectionsRefused part c =
    First (CountRefused most_jobs c (part 0)) (counted most_jobs (part 0)) (λ n t₁.
    First (CountRefused most_resources c (part 1)) (counted most_resources (part 1)) (λ k t₂.
    TablesRefused n k (part 2) (part 3) (part 4) c))

-- the headings, or what stands in their sections
abbrev pub PsplibRefused : List ℕ → ℕ → Type 0
PsplibRefused s c = ((Headed s → ⊥) × (c ≡ 35)) ⊎ (Headed s × SectionsRefused (λ k. section k (marks s)) c)

module _ (c : ℕ) where
  tables_refused : (n k : ℕ) (relations requests capacities : List ℕ) → (tables n k relations requests capacities ≡ bad c) ↔ TablesRefused n k relations requests capacities c
  unfolding tables
  tables_refused n k relations requests capacities =
      first_refused (in_turn (relation n) 0 n (tokens (behind_lines 2 relations))) _ _ _ c (in_turn_refused (relation n) (RelationRefused n c) c (relation_refused c n) 0 n _) (λ sss t₁.
      first_refused (in_turn (request k) 0 n (tokens (behind_lines 3 requests))) _ _ _ c (in_turn_refused (request k) (RequestRefused k c) c (request_refused c k) 0 n _) (λ qs t₂.
      last_refused (numbers_up_to most_demand k (tokens (behind_lines 2 capacities))) _ (λ cs t₃. record { capacities = cs; rows = join sss qs }) (λ cs t₃. []) c (numbers_refused most_demand k c _)))

  sections_refused : (part : ℕ → List ℕ) → (sections part ≡ bad c) ↔ SectionsRefused part c
  unfolding sections
  sections_refused part =
      first_refused (counted most_jobs (part 0)) _ _ _ c (counted_refused most_jobs (part 0) c) (λ n t₁.
      first_refused (counted most_resources (part 1)) _ _ _ c (counted_refused most_resources (part 1) c) (λ k t₂.
      tables_refused n k (part 2) (part 3) (part 4)))

  pub psplib_refused : (s : List ℕ) → (psplib s ≡ bad c) ↔ PsplibRefused s c
  unfolding psplib
  psplib_refused s = (to (in_order 0 (marks s)) refl, from (in_order 0 (marks s)) refl)
    where
      all : Read Project
      all = sections (λ k. section k (marks s))

      to : (b : Bool) → in_order 0 (marks s) ≡ b → cond b all (bad 35) ≡ bad c → PsplibRefused s c
      to true e q = inr ((in_order_which s).0 e, (sections_refused (λ k. section k (marks s))).0 q)
      to false e q = inl ((λ h. clash (in_order 0 (marks s)) ((in_order_which s).1 h) e), cc)

      from : (b : Bool) → in_order 0 (marks s) ≡ b → PsplibRefused s c → cond b all (bad 35) ≡ bad c
      from true e (inl q) = absurd (q.0 ((in_order_which s).0 e))
      from true e (inr q) = (sections_refused (λ k. section k (marks s))).1 q.1
      from false e (inl q) = ap bad (sym q.1)
      from false e (inr q) = absurd (clash (in_order 0 (marks s)) ((in_order_which s).1 q.0) e)

-- 35 is the headings' alone
pub psplib_35 : (s : List ℕ) → (psplib s ≡ bad 35) ↔ (Headed s → ⊥)
psplib_35 s = (λ e. to ((psplib_refused 35 s).0 e), λ h. (psplib_refused 35 s).1 (inl (h, refl)))
  where
    not_of_text : OfText 35 → ⊥
    not_of_text (inl z) = omega arith
    not_of_text (inr (inl z)) = omega arith
    not_of_text (inr (inr z)) = omega arith

    to : PsplibRefused s 35 → Headed s → ⊥
    to (inl q) h = q.0 h
    to (inr q) h = not_of_text (sections_codes (λ k. section k (marks s)) 35 ((sections_refused 35 (λ k. section k (marks s))).1 q.1))

-- and beyond 32 it is the only number that a text gives
pub psplib_beyond : (s : List ℕ) (k : ℕ) → 32 < k → (k ≡ 35 → ⊥) → psplib s ≡ bad k → ⊥
psplib_beyond s k h f e = go (psplib_codes s k e)
  where
    go : (k ≡ 35) ⊎ OfText k → ⊥
    go (inl z) = f z
    go (inr (inl z)) = omega arith
    go (inr (inr (inl z))) = omega arith
    go (inr (inr (inr z))) = omega arith
