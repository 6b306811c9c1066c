-- Steps counted in place of durations tell of cycles: without one, no chain has as many steps as there are jobs.
use Prim.Native.Nat.{ℕ, ◌≤◌}
use native.Mathlib.Omega.{arith}
use mathlib.Core.Path.{◌≡◌, subst}
use mathlib.Core.Bool.{false}
use mathlib.Core.List.{List}
use lib.ListN.{replicate, get_or-replicate}
use Rattle.lists.specs.Lists.{◌!◌}
use Rattle.joblist.specs.Limits.{most_jobs}
use Rattle.chains.specs.Paths.{Pair, Precedes, Below, Cycle, Chain, weight}
use Rattle.chains.specs.Passes.{NoneRaises}
use Rattle.chains.proofs.Chains.{stable_acyclic, long_cycle, chain_map, chain_inside}
use Rattle.chains.proofs.Flipped.{flipped_false}
use Rattle.texts.specs.Tokens.{Token}
use Rattle.texts.specs.Readings.{Read, good}
use Rattle.passes.specs.Rounds.{ChainOver, AtRest, Overrun}

module _ (r : Read (List Pair)) (n : ℕ) (few : n ≤ most_jobs) (ps : List Pair) (end : List Token) (e : r ≡ good ps end) (range : Below n (Precedes ps)) where
  abbrev ones : List ℕ
  ones = replicate most_jobs 1

  one_each : (a b : ℕ) → Precedes ps a b → ones ! a ≡ 1
  one_each a b q = get_or-replicate most_jobs a 1 0 (omega (arith, (range a b q).0))

  pub says_33 : Overrun r ones false n → Cycle (Precedes ps)
  says_33 t =
      let u : ChainOver ps ones n = subst (λ (l : List Pair). ChainOver l ones n) (flipped_false ps) (t.long ps end e) in
      let c : Chain (Precedes ps) (λ i. 1) u.at u.length = chain_map (Precedes ps) (Precedes ps) (weight ones) (λ i. 1) (λ a b q. (q, one_each a b q)) u.chain in
      long_cycle (Precedes ps) n range (chain_inside (Precedes ps) n (λ i. 1) range (omega (arith, u.over)) c) (omega (arith, u.over)) c

  pub no_33 : (v : List ℕ) → AtRest r n ones false n v → Cycle (Precedes ps) → ⊥
  no_33 v t c =
      let s : NoneRaises (Precedes ps) (weight ones) v = subst (λ (l : List Pair). NoneRaises (Precedes l) (weight ones) v) (flipped_false ps) (t.stable ps end e range) in
      stable_acyclic (Precedes ps) (λ i. 1) v (λ a b q. omega (arith, s a b q, one_each a b q)) (λ i. omega arith) c
