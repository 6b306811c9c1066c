-- What is left of the rows, one step on: a successor, the head of a row, the end.
use Prim.Native.Nat.{ℕ, suc, ◌+◌, ◌-◌, ◌≤◌, ◌<◌}
use native.Mathlib.Omega.{arith}
use native.Mathlib.Numerals.{add-one}
use mathlib.Core.Path.{◌≡◌, refl}
use mathlib.Core.List.{List, [], ◌∷◌, ◌++◌}
use Rattle.lists.specs.Lists.{◌!◌}
use Rattle.chains.specs.Paths.{Pair, pair}
use Rattle.texts.specs.Tokens.{Token}
use Rattle.texts.specs.Readings.{Read, bad, good, and_then, in_turn}
use Rattle.texts.proofs.Readings.{in_turn_any}
use Rattle.projects.specs.Projects.{Row, Head, headed, link, tagged, pairs_from, durations, demands_on}
use Rattle.rowheads.specs.Heads.{head_in, row_in}
use Rattle.walking.specs.Walk.{Seen, seeing, add_pair, add_row}
use Rattle.rowheads.specs.declared.Table.{Table}

-- rows as seen, behind pairs
abbrev pub seen : ℕ → List Pair → List Row → List Pair → Seen
seen res ps rs qs = record { durs = durations rs; dems = demands_on res rs; pairs = ps ++ qs }

module _ (n : ℕ) (table : Table) (res next left : ℕ) (ts : List Token) where
  pub seeing_pair : (v : ℕ) (rest : List Token) → link n ts ≡ good v rest
      → seeing n table res next (suc left) ts ≡ add_pair (pair (next - 1) v) (seeing n table res next left rest)
  unfolding seeing in_turn
  seeing_pair v rest e = rw (e, in_turn_any (link n) 1 0 left rest) (go (in_turn (λ i. link n) 0 left rest))
    where
      after : List ℕ → List Token → Read Seen
      after ss t₁ = and_then (in_turn (row_in table n) next (n - next) t₁) (λ rs t₂. good (seen res (tagged (next - 1) ss) rs (pairs_from next rs)) t₂)

      rows-go : (ss : List ℕ) (r : Read (List Row))
          → and_then r (λ rs t₂. good (seen res (pair (next - 1) v ∷ tagged (next - 1) ss) rs (pairs_from next rs)) t₂)
          ≡ add_pair (pair (next - 1) v) (and_then r (λ rs t₂. good (seen res (tagged (next - 1) ss) rs (pairs_from next rs)) t₂))
      rows-go ss (bad c) = refl
      rows-go ss (good rs t₂) = refl

      go : (r : Read (List ℕ)) → and_then (and_then r (λ xs end. good (v ∷ xs) end)) after ≡ add_pair (pair (next - 1) v) (and_then r after)
      go (bad c) = refl
      go (good ss t₁) = rows-go ss (in_turn (row_in table n) next (n - next) t₁)

  pub seeing_bad : (c : ℕ) → link n ts ≡ bad c → seeing n table res next (suc left) ts ≡ bad c
  unfolding seeing in_turn
  seeing_bad c e = rw e

module _ (n : ℕ) (table : Table) (res next : ℕ) (ts : List Token) where
  pub seeing_end : n ≤ next → seeing n table res next 0 ts ≡ good (record { durs = []; dems = []; pairs = [] }) ts
  unfolding seeing in_turn pairs_from
  seeing_end h = let z : n - next ≡ 0 = omega arith in rw z

  pub seeing_headless : (c : ℕ) → next < n → head_in table n next ts ≡ bad c → seeing n table res next 0 ts ≡ bad c
  unfolding seeing in_turn row_in headed
  seeing_headless c h e = let z : n - next ≡ suc (n - suc next) = omega arith in rw (z, e)

  pub seeing_row : (x : Head) (rest : List Token) → next < n → head_in table n next ts ≡ good x rest
      → seeing n table res next 0 ts ≡ add_row x.duration (x.demands ! res) (seeing n table res (next + 1) x.count rest)
  unfolding seeing in_turn row_in headed pairs_from
  seeing_row x rest h e =
      let z : n - next ≡ suc (n - suc next) = omega arith in
      let y : suc next - 1 ≡ next = omega arith in
      rw (z, e, add-one next, y) (go (in_turn (λ i. link n) 0 x.count rest))
    where
      made : List ℕ → Row
      made ss = record { duration = x.duration; demands = x.demands; successors = ss }

      rows-go : (ss : List ℕ) (r : Read (List Row))
          → and_then (and_then r (λ xs end. good (made ss ∷ xs) end)) (λ rs t₂. good (seen res [] rs (pairs_from next rs)) t₂)
          ≡ add_row x.duration (x.demands ! res) (and_then r (λ rs t₂. good (seen res (tagged next ss) rs (pairs_from (suc next) rs)) t₂))
      rows-go ss (bad c) = refl
      rows-go ss (good rs t₂) = refl

      go : (r : Read (List ℕ))
          → and_then (and_then (and_then r (λ ss end. good (made ss) end)) (λ a t. and_then (in_turn (row_in table n) (suc next) (n - suc next) t) (λ xs end. good (a ∷ xs) end)))
          (λ rs t₂. good (seen res [] rs (pairs_from next rs)) t₂)
          ≡ add_row x.duration (x.demands ! res) (and_then r (λ ss t₁. and_then (in_turn (row_in table n) (suc next) (n - suc next) t₁)
          (λ rs t₂. good (seen res (tagged next ss) rs (pairs_from (suc next) rs)) t₂)))
      go (bad c) = refl
      go (good ss t₁) = rows-go ss (in_turn (row_in table n) (suc next) (n - suc next) t₁)
