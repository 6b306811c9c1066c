-- What a PSPLIB text that was read says is within the limits; and the refusals that a text can meet are 35, 30, 31 and 32.
use Prim.Native.Nat.{ℕ, ◌≤◌}
use native.Mathlib.Omega.{arith}
use mathlib.Core.Path.{◌≡◌, refl, sym, subst, ◌∙◌}
use mathlib.Core.Bool.{Bool, true, false, cond}
use mathlib.Core.List.{List, []}
use mathlib.Core.Logic.{◌⊎◌, inl, inr}
use lib.ListN.{length}
use Rattle.lists.specs.Lists.{Every}
use Rattle.joblist.specs.Limits.{most_demand, most_jobs, most_resources}
use Rattle.texts.specs.Tokens.{Token, tokens}
use Rattle.texts.specs.Readings.{Read, bad, good, and_then, in_turn, numbers_up_to}
use Rattle.texts.proofs.Readings.{bad_not_good, good_same, then_good, numbers_takes, numbers_codes, in_turn_takes, in_turn_codes, each_within}
use Rattle.headings.specs.Lines.{behind_lines, counted}
use Rattle.headings.specs.Headings.{marks, in_order, section}
use Rattle.headings.proofs.Facts.{counted_codes, counted_takes}
use Rattle.projects.specs.Projects.{Project, WithinLimits}
use Rattle.projects.specs.Tables.{relation, Need, request}
use Rattle.rowheads.proofs.Takes.{OfText, low_code, some_code, then_codes, Limited}
use Rattle.rowheads.proofs.Tables.{linked, needed, relation_within, request_within, relation_code, request_code}
use Rattle.rowheads.proofs.Limits.{rows_within}
use Rattle.psplib.specs.Psplib.{join, tables, sections, psplib}
use Rattle.psplib.proofs.Joined.{join_long, join_limited}

-- tables that were read: so many rows, each within its limits
pub relations_take : (n : ℕ) (ts rest : List Token) (sss : List (List ℕ)) → in_turn (relation n) 0 n ts ≡ good sss rest
    → (length sss ≡ n) × Every (λ ss. Limited n (linked ss)) sss × (length rest ≤ length ts)
relations_take n ts rest sss e = in_turn_takes (relation n) (λ ss. Limited n (linked ss)) (λ j u v ss p. relation_within n j u v ss p) 0 n ts rest sss e

pub requests_take : (n k : ℕ) (ts rest : List Token) (qs : List Need) → in_turn (request k) 0 n ts ≡ good qs rest
    → (length qs ≡ n) × Every (λ q. Limited n (needed q)) qs × (length rest ≤ length ts)
requests_take n k ts rest qs e = in_turn_takes (request k) (λ q. Limited n (needed q)) (λ j u v q p. request_within n k j u v q p) 0 n ts rest qs e

relations_codes : (n c : ℕ) (ts : List Token) → in_turn (relation n) 0 n ts ≡ bad c → OfText c
relations_codes n c ts e = in_turn_codes (relation n) OfText (λ j d v q. relation_code n j d v q) 0 n c ts e

requests_codes : (n k c : ℕ) (ts : List Token) → in_turn (request k) 0 n ts ≡ bad c → OfText c
requests_codes n k c ts e = in_turn_codes (request k) OfText (λ j d v q. request_code k j d v q) 0 n c ts e

-- ---- the tables

module _ (n k : ℕ) (s₁ s₂ s₃ : List ℕ) where
  abbrev relations : Read (List (List ℕ))
  relations = in_turn (relation n) 0 n (tokens (behind_lines 2 s₁))

  abbrev requests : Read (List Need)
  requests = in_turn (request k) 0 n (tokens (behind_lines 3 s₂))

  abbrev capacities : Read (List ℕ)
  capacities = numbers_up_to most_demand k (tokens (behind_lines 2 s₃))

  pub tables_take : (x : Project) (rest : List Token) → n ≤ most_jobs → tables n k s₁ s₂ s₃ ≡ good x rest → WithinLimits x
  unfolding tables
  tables_take x rest few e =
      let s = then_good relations (λ rs u. and_then requests (λ qs v. and_then capacities (λ cs w. good (made rs qs cs) []))) x rest e in
      let t = then_good requests (λ qs v. and_then capacities (λ cs w. good (made s.0 qs cs) [])) x rest s.3 in
      let r = then_good capacities (λ cs w. good (made s.0 t.0 cs) []) x rest t.3 in
      let o = good_same (made s.0 t.0 r.0) x [] rest r.3 in
      let a = relations_take n (tokens (behind_lines 2 s₁)) s.1 s.0 s.2 in
      let b = requests_take n k (tokens (behind_lines 3 s₂)) t.1 t.0 t.2 in
      let d = numbers_takes most_demand k (tokens (behind_lines 2 s₃)) r.1 r.0 r.2 in
      subst WithinLimits o.0 (rows_within n r.0 (join s.0 t.0) few (each_within most_demand r.0 d.1)
      (join_long s.0 t.0 (a.0 ∙ sym b.0) ∙ a.0) (join_limited n s.0 t.0 a.1 b.1))
    where
      made : List (List ℕ) → List Need → List ℕ → Project
      made rs qs cs = record { capacities = cs; rows = join rs qs }

  pub tables_codes : (c : ℕ) → tables n k s₁ s₂ s₃ ≡ bad c → OfText c
  unfolding tables
  tables_codes c =
      then_codes relations _ c (relations_codes n c (tokens (behind_lines 2 s₁))) (λ rs u p.
      then_codes requests _ c (requests_codes n k c (tokens (behind_lines 3 s₂))) (λ qs v p'.
      then_codes capacities _ c (λ q. low_code (numbers_codes most_demand k c (tokens (behind_lines 2 s₃)) q)) (λ cs w p'' q. bad_not_good _ c _ [] q refl)))

-- ---- the whole text

sections_take : (part : ℕ → List ℕ) (x : Project) (rest : List Token) → sections part ≡ good x rest → WithinLimits x
unfolding sections
sections_take part x rest e =
    let s = then_good (counted most_jobs (part 0)) (λ n u. and_then (counted most_resources (part 1)) (λ k v. tables n k (part 2) (part 3) (part 4))) x rest e in
    let t = then_good (counted most_resources (part 1)) (λ k v. tables s.0 k (part 2) (part 3) (part 4)) x rest s.3 in
    tables_take s.0 t.0 (part 2) (part 3) (part 4) x rest (counted_takes most_jobs (part 0) s.0 s.1 s.2) t.3

pub psplib_takes : (s : List ℕ) (x : Project) (rest : List Token) → psplib s ≡ good x rest → WithinLimits x
unfolding psplib
psplib_takes s x rest e = go (in_order 0 (marks s)) e
  where
    go : (b : Bool) → cond b (sections (λ k. section k (marks s))) (bad 35) ≡ good x rest → WithinLimits x
    go true q = sections_take (λ k. section k (marks s)) x rest q
    go false q = bad_not_good (bad 35) 35 x rest refl q

pub sections_codes : (part : ℕ → List ℕ) (c : ℕ) → sections part ≡ bad c → OfText c
unfolding sections
sections_codes part c =
    then_codes (counted most_jobs (part 0)) _ c (λ q. low_code (counted_codes most_jobs (part 0) c q)) (λ n u p.
    then_codes (counted most_resources (part 1)) _ c (λ q. low_code (counted_codes most_resources (part 1) c q)) (λ k v p' q. tables_codes n k (part 2) (part 3) (part 4) c q))

pub psplib_codes : (s : List ℕ) (c : ℕ) → psplib s ≡ bad c → (c ≡ 35) ⊎ OfText c
unfolding psplib
psplib_codes s c e = go (in_order 0 (marks s)) e
  where
    go : (b : Bool) → cond b (sections (λ k. section k (marks s))) (bad 35) ≡ bad c → (c ≡ 35) ⊎ OfText c
    go true q = inr (sections_codes (λ k. section k (marks s)) c q)
    go false q = inl cc

-- a refusal has a number
pub psplib_some : {c : ℕ} → (c ≡ 35) ⊎ OfText c → c ≡ 0 → ⊥
psplib_some (inl e) z = omega arith
psplib_some (inr t) z = some_code t z
