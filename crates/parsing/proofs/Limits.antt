-- What a Patterson text that was read says is within the limits; and the refusals that such a text itself can meet are 30, 31 and 32.
use Prim.Native.Nat.{ℕ, ◌≤◌, ◌<◌}
use native.Mathlib.Omega.{arith}
use mathlib.Core.Path.{◌≡◌, refl, sym, subst}
use mathlib.Core.List.{List, [], ◌∷◌}
use mathlib.Core.Logic.{inl, inr}
use lib.ListN.{length}
use Rattle.lists.specs.Lists.{◌!◌}
use Rattle.joblist.specs.Limits.{most_demand, most_jobs, most_resources}
use Rattle.texts.specs.Tokens.{Token, tokens}
use Rattle.texts.specs.Readings.{bad, good, and_then, one, in_turn, numbers_up_to, nothing_more}
use Rattle.texts.proofs.Readings.{bad_not_good, good_same, then_good, one_takes, one_codes, numbers_takes, numbers_codes, in_turn_takes, in_turn_codes, each_within}
use Rattle.projects.specs.Projects.{Row, Project, WithinLimits}
use Rattle.projects.specs.Patterson.{row, Opening, opening, project, patterson}
use Rattle.rowheads.specs.Heads.{head_in, row_in}
use Rattle.rowheads.specs.declared.Table.TheVariants.{Whole}
use Rattle.rowheads.proofs.Takes.{OfText, low_code, then_codes, row_codes, Limited, row_takes}
use Rattle.rowheads.proofs.Limits.{rows_within}

-- what is known of the counts and the capacities that were read
pub record Opens (o : Opening) : Type 0 where
  pub few : o.jobs ≤ most_jobs
  pub resources : length o.capacities ≡ o.resources
  pub capacities : (k : ℕ) → o.capacities ! k ≤ most_demand

pub opening_takes : (ts rest : List Token) (o : Opening) → opening ts ≡ good o rest → Opens o
unfolding opening
opening_takes ts rest o e =
    let s = then_good (one most_jobs 31 ts) (λ n u. and_then (one most_resources 31 u) (λ k v. and_then (numbers_up_to most_demand k v) (λ cs w. good (made n k cs) w))) o rest e in
    let t = then_good (one most_resources 31 s.1) (λ k v. and_then (numbers_up_to most_demand k v) (λ cs w. good (made s.0 k cs) w)) o rest s.3 in
    let r = then_good (numbers_up_to most_demand t.0 t.1) (λ cs w. good (made s.0 t.0 cs) w) o rest t.3 in
    let y = good_same (made s.0 t.0 r.0) o r.1 rest r.3 in
    let q = numbers_takes most_demand t.0 t.1 r.1 r.0 r.2 in
    subst Opens y.0 (record { few = (one_takes most_jobs 31 s.0 ts s.1 s.2).1; resources = q.0; capacities = each_within most_demand r.0 q.1 })
  where
    made : ℕ → ℕ → List ℕ → Opening
    made n k cs = record { jobs = n; resources = k; capacities = cs }

over_good : {A : Type 0} (a b : A) (ts rest : List Token) → nothing_more a ts ≡ good b rest → (a ≡ b) × (rest ≡ [])
over_good a b [] rest e = let q = good_same a b [] rest e in (q.0, sym q.1)
over_good a b (t ∷ ts) rest e = bad_not_good (bad 30) 30 b rest refl e

over_codes : {A : Type 0} (a : A) (ts : List Token) (c : ℕ) → nothing_more a ts ≡ bad c → c ≡ 30
over_codes a [] c e = bad_not_good (good a []) c a [] e refl
over_codes a (t ∷ ts) c e = cc

-- nothing is left of a text that was read
pub record Takes (x : Project) (rest : List Token) : Type 0 where
  pub within : WithinLimits x
  pub over : rest ≡ []

project_takes : (ts rest : List Token) (x : Project) → project ts ≡ good x rest → Takes x rest
unfolding project row row_in head_in
project_takes ts rest x e =
    let s = then_good (opening ts) (λ o u. and_then (in_turn (row o.jobs o.resources) 0 o.jobs u) (λ rs v. nothing_more (made o rs) v)) x rest e in
    let t = then_good (in_turn (row s.0.jobs s.0.resources) 0 s.0.jobs s.1) (λ rs v. nothing_more (made s.0 rs) v) x rest s.3 in
    let o = opening_takes ts s.1 s.0 s.2 in
    let q = in_turn_takes (row s.0.jobs s.0.resources) (Limited s.0.jobs) (λ j u v r p. row_takes (Whole s.0.resources) s.0.jobs j u v r p) 0 s.0.jobs s.1 t.1 t.0 t.2 in
    let y = over_good (made s.0 t.0) x t.1 rest t.3 in
    record {
      within = subst WithinLimits y.0 (rows_within s.0.jobs s.0.capacities t.0 o.few o.capacities q.0 q.1);
      over = y.1;
    }
  where
    made : Opening → List Row → Project
    made o rs = record { capacities = o.capacities; rows = rs }

pub patterson_takes : (s : List ℕ) (rest : List Token) (x : Project) → patterson s ≡ good x rest → Takes x rest
unfolding patterson
patterson_takes s rest x e = project_takes (tokens s) rest x e

opening_codes : (c : ℕ) (ts : List Token) → opening ts ≡ bad c → OfText c
unfolding opening
opening_codes c ts =
    then_codes (one most_jobs 31 ts) _ c (λ q. low_code (one_codes most_jobs 31 c ts q)) (λ n u p.
    then_codes (one most_resources 31 u) _ c (λ q. low_code (one_codes most_resources 31 c u q)) (λ k v p'.
    then_codes (numbers_up_to most_demand k v) _ c (λ q. low_code (numbers_codes most_demand k c v q)) (λ cs w p'' q. bad_not_good _ c _ w q refl)))

pub patterson_codes : (s : List ℕ) (c : ℕ) → patterson s ≡ bad c → OfText c
unfolding patterson project row row_in head_in
patterson_codes s c =
    then_codes (opening (tokens s)) _ c (opening_codes c (tokens s)) (λ o u p.
    then_codes (in_turn (row o.jobs o.resources) 0 o.jobs u) _ c
    (in_turn_codes (row o.jobs o.resources) OfText (λ j d v q. row_codes (Whole o.resources) o.jobs j d v q) 0 o.jobs c u)
    (λ rs v p' q. low_code (inl (over_codes (record { capacities = o.capacities; rows = rs }) v c q))))

-- none beyond 32
pub patterson_beyond : (s : List ℕ) (k : ℕ) → 32 < k → patterson s ≡ bad k → ⊥
patterson_beyond s k h e = go (patterson_codes s k e)
  where
    go : OfText k → ⊥
    go (inl z) = omega arith
    go (inr (inl z)) = omega arith
    go (inr (inr z)) = omega arith
