-- All the rows of a table at once, as the walk sees them; and the pairs do not depend on the resource that the walk looks at.
use Prim.Native.Nat.{ℕ, ◌-◌}
use native.Mathlib.Omega.{arith}
use mathlib.Core.Path.{◌≡◌, refl, sym, ap, ◌∙◌}
use mathlib.Core.List.{List}
use Rattle.texts.specs.Tokens.{Token}
use Rattle.texts.specs.Readings.{Read, bad, good, and_then, in_turn}
use Rattle.texts.proofs.Readings.{bad_not_good}
use Rattle.projects.specs.Projects.{Row, link, tagged, pairs_from, durations, demands_on}
use Rattle.rowheads.specs.Heads.{row_in}
use Rattle.rowheads.specs.declared.Table.{Table}
use Rattle.walking.specs.Walk.{Seen, seeing}
use Rattle.walking.specs.Comes.{only_pairs}
use Rattle.walking.proofs.Seeing.{seen}

abbrev pub viewed : ℕ → List Row → Seen
viewed res rs = record { durs = durations rs; dems = demands_on res rs; pairs = pairs_from 0 rs }

seeing_all : (n : ℕ) (table : Table) (res : ℕ) (ts : List Token) → seeing n table res 0 0 ts ≡ and_then (in_turn (row_in table n) 0 n ts) (λ rs u. good (viewed res rs) u)
unfolding seeing in_turn
seeing_all n table res ts = let z : n - 0 ≡ n = omega arith in ap (λ (m : ℕ). and_then (in_turn (row_in table n) 0 m ts) (λ rs u. good (viewed res rs) u)) z

pub rows_good : (n : ℕ) (table : Table) (res : ℕ) (ts rest : List Token) (x : Seen) → seeing n table res 0 0 ts ≡ good x rest
    → (rs : List Row) × (in_turn (row_in table n) 0 n ts ≡ good rs rest) × (x ≡ viewed res rs)
rows_good n table res ts rest x e = go (in_turn (row_in table n) 0 n ts) (sym (seeing_all n table res ts) ∙ e)
  where
    go : (r : Read (List Row)) → and_then r (λ rs u. good (viewed res rs) u) ≡ good x rest → (rs : List Row) × (r ≡ good rs rest) × (x ≡ viewed res rs)
    go (bad c) q = bad_not_good (bad c) c x rest refl q
    go (good rs u) q = (rs, let y : u ≡ rest = cc in rw y, cc)

pub rows_bad : (n : ℕ) (table : Table) (res : ℕ) (ts : List Token) (c : ℕ) → seeing n table res 0 0 ts ≡ bad c → in_turn (row_in table n) 0 n ts ≡ bad c
rows_bad n table res ts c e = go (in_turn (row_in table n) 0 n ts) (sym (seeing_all n table res ts) ∙ e)
  where
    go : (r : Read (List Row)) → and_then r (λ rs u. good (viewed res rs) u) ≡ bad c → r ≡ bad c
    go (bad d) q = cc
    go (good rs u) q = bad_not_good (good (viewed res rs) u) c (viewed res rs) u q refl

pub pairs_any : (n : ℕ) (table : Table) (a b next left : ℕ) (ts : List Token) → only_pairs (seeing n table a next left ts) ≡ only_pairs (seeing n table b next left ts)
unfolding seeing
pairs_any n table a b next left ts = go (in_turn (λ i. link n) 0 left ts)
  where
    rest : (ss : List ℕ) (r : Read (List Row))
        → only_pairs (and_then r (λ rs t₂. good (seen a (tagged (next - 1) ss) rs (pairs_from next rs)) t₂))
        ≡ only_pairs (and_then r (λ rs t₂. good (seen b (tagged (next - 1) ss) rs (pairs_from next rs)) t₂))
    rest ss (bad c) = refl
    rest ss (good rs t₂) = refl

    go : (r : Read (List ℕ))
        → only_pairs (and_then r (λ ss t₁. and_then (in_turn (row_in table n) next (n - next) t₁) (λ rs t₂. good (seen a (tagged (next - 1) ss) rs (pairs_from next rs)) t₂)))
        ≡ only_pairs (and_then r (λ ss t₁. and_then (in_turn (row_in table n) next (n - next) t₁) (λ rs t₂. good (seen b (tagged (next - 1) ss) rs (pairs_from next rs)) t₂)))
    go (bad c) = refl
    go (good ss t₁) = rest ss (in_turn (row_in table n) next (n - next) t₁)
