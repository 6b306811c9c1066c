-- From settled values to 34 and the longest chains before and after each job.
use Prim.Native.Nat.{ℕ, ◌<◌}
use native.Mathlib.Omega.{arith}
use mathlib.Core.Path.{◌≡◌, refl, subst}
use mathlib.Core.Bool.{true, false}
use mathlib.Core.List.{List}
use Rattle.lists.specs.Lists.{◌!◌}
use Rattle.chains.specs.Paths.{Pair, Precedes, Below, Chain, Longest, Longer, Back, weight, flipped}
use Rattle.chains.specs.Passes.{Chained, NoneRaises}
use Rattle.chains.proofs.Chains.{stable_most, stable_longest, stable_after, chain_map, chain_starts, chain_inside}
use Rattle.chains.proofs.Flipped.{flipped_false, back_of, of_back}
use Rattle.texts.specs.Tokens.{Token}
use Rattle.texts.specs.Readings.{Read, good}
use Rattle.passes.specs.Rounds.{ChainOver, AtRest, Overrun}
use Rattle.precedence.specs.Chains.{ExceedsSays}

module _ (r : Read (List Pair)) (n : ℕ) (ps : List Pair) (end : List Token) (e : r ≡ good ps end) (range : Below n (Precedes ps)) (p : List ℕ) (h : ℕ) where
  pub head_34 : Overrun r p false h → Longer (Precedes ps) n (weight p) h
  head_34 t =
      let u : ChainOver ps p h = subst (λ (l : List Pair). ChainOver l p h) (flipped_false ps) (t.long ps end e) in
      record {
        last = u.at;
        job = chain_inside (Precedes ps) n (weight p) range (omega (arith, u.over)) u.chain;
        before = u.length;
        chain = u.chain;
        over = omega (arith, u.over);
      }

  backwards : {j L : ℕ} → Chain (Precedes (flipped true ps)) (weight p) j L → Chain (Back (Precedes ps)) (weight p) j L
  backwards c = chain_map (Precedes (flipped true ps)) (Back (Precedes ps)) (weight p) (weight p) (λ a b q. (back_of ps a b q, refl)) c

  pub tail_longest : (tails : List ℕ) → AtRest r n p true h tails → (j : ℕ) → Longest (Back (Precedes ps)) (weight p) j (tails ! j)
  tail_longest tails t j = record {
    one = backwards (t.chains ps end e j);
    most = λ M c.
        stable_most (Precedes (flipped true ps)) (weight p) tails (t.stable ps end e range)
        (chain_map (Back (Precedes ps)) (Precedes (flipped true ps)) (weight p) (weight p) (λ a b d. (of_back ps a b d, refl)) c);
  }

  module _ (heads : List ℕ) (t : AtRest r n p false h heads) where
    stable : NoneRaises (Precedes ps) (weight p) heads
    stable = subst (λ (l : List Pair). NoneRaises (Precedes l) (weight p) heads) (flipped_false ps) (t.stable ps end e range)

    pub head_longest : (j : ℕ) → Longest (Precedes ps) (weight p) j (heads ! j)
    head_longest = stable_longest (Precedes ps) (weight p) heads stable (subst (λ (l : List Pair). Chained (Precedes l) (weight p) heads) (flipped_false ps) (t.chains ps end e))

    pub over_34 : ExceedsSays heads p n h true → Longer (Precedes ps) n (weight p) h
    over_34 x = record { last = x.0; job = x.1; before = heads ! x.0; chain = (head_longest x.0).one; over = x.2 }

    pub no_34 : ExceedsSays heads p n h false → Longer (Precedes ps) n (weight p) h → ⊥
    no_34 x l = omega (arith, x l.last l.job, l.over, stable_most (Precedes ps) (weight p) heads stable l.chain)

    -- a chain after a job that is too long: its far end's chain is
    pub tail_34 : Overrun r p true h → Longer (Precedes ps) n (weight p) h
    tail_34 t =
        let u = t.long ps end e in
        let c : Chain (Back (Precedes ps)) (weight p) u.at u.length = backwards u.chain in
        let R : Below n (Back (Precedes ps)) = λ a b q. ((range b a q).1, (range b a q).0) in
        let j : u.at < n = chain_inside (Back (Precedes ps)) n (weight p) R (omega (arith, u.over)) c in
        over_34 (c.from, chain_starts (Back (Precedes ps)) n (weight p) R c j, omega (arith, stable_after (Precedes ps) (weight p) heads stable c, u.over))
