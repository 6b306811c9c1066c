-- Rounds one after the other: the values stay chains' lengths below the limit, and their sum rises.
use Prim.Native.Nat.{ℕ, zero, suc, ◌+◌, ◌-◌, ◌*◌, ◌≤◌, ◌<◌}
use native.Mathlib.Omega.{arith}
use native.Mathlib.Nat.{suc-mul}
use mathlib.Core.Path.{◌≡◌, ap, ◌∙◌, subst}
use mathlib.Core.Bool.{Bool}
use mathlib.Core.List.{List}
use lib.ListN.{length, replicate, length-replicate}
use Rattle.lists.specs.Lists.{◌!◌}
use Rattle.lists.proofs.Lists.{zeros_at}
use Rattle.lists.specs.Sums.{total}
use Rattle.joblist.specs.Limits.{most_jobs}
use Rattle.chains.specs.Paths.{Pair, Precedes, flipped, weight}
use Rattle.chains.specs.Passes.{Chained}
use Rattle.chains.proofs.Chains.{chain_none}
use Rattle.chains.proofs.Flipped.{below_flipped}
use Rattle.chains.proofs.Passes.{pass_chained, pass_meets}
use Rattle.texts.specs.Tokens.{Token}
use Rattle.texts.specs.Readings.{Read, good}
use Rattle.passes.specs.declared.Round.TheVariants.{Same, Changed, Over}
use Rattle.passes.specs.Rounds.{sum, RoundSays, AtRest, Overrun}

sum_under : (f : ℕ → ℕ) (top m : ℕ) → ((j : ℕ) → f j ≤ top) → total f m ≤ m * top
unfolding total
sum_under f top zero h = omega arith
sum_under f top (suc m) h = omega (arith, sum_under f top m h, h m, suc-mul m top)

pub record Settling (r : Read (List Pair)) (p : List ℕ) (back : Bool) (top : ℕ) (v : List ℕ) : Type 0 where
  pub long : length v ≡ most_jobs
  pub low : (j : ℕ) → v ! j ≤ top
  pub chains : (ps : List Pair) (end : List Token) → r ≡ good ps end → Chained (Precedes (flipped back ps)) (weight p) v

module _ (r : Read (List Pair)) (p : List ℕ) (back : Bool) (top : ℕ) where
  pub settling_start : (v : List ℕ) → v ≡ replicate most_jobs 0 → Settling r p back top v
  settling_start v e =
      let z : (j : ℕ) → v ! j ≡ 0 = λ j. ap (λ (l : List ℕ). l ! j) e ∙ zeros_at most_jobs j in
      record {
        long = ap length e ∙ length-replicate {A = ℕ} most_jobs 0;
        low = λ j. omega (arith, z j);
        chains = λ ps end q j. rw (z j) chain_none;
      }

  module _ (v v' : List ℕ) (g : Settling r p back top v) where
    pub settling_again : length v' ≡ most_jobs → RoundSays r p back top v v' Changed → Settling r p back top v'
    settling_again l t = record {
      long = l;
      low = t.1;
      chains = λ ps end e. rw (t.2 ps end e) (pass_chained (weight p) (Precedes (flipped back ps)) (flipped back ps) v (λ a b q. q) (g.chains ps end e));
    }

    pub settling_less : RoundSays r p back top v v' Changed → most_jobs * top - sum v' < most_jobs * top - sum v
    settling_less t = omega (arith, t.0, sum_under (λ j. v' ! j) top most_jobs t.1)

    pub settling_true : (n : ℕ) → n ≤ most_jobs → RoundSays r p back top v v' Same → AtRest r n p back top v'
    settling_true n h t =
        rw t.0 (record {
          low = g.low;
          chains = g.chains;
          stable = λ ps end e q a b d.
              subst (λ (u : List ℕ). v ! a + p ! a ≤ u ! b) (t.1 ps end e)
              (pass_meets (weight p) (flipped back ps) v a b d (rw g.long (omega (arith, (below_flipped back ps n q a b d).1))));
        })

    pub settling_false : RoundSays r p back top v v' Over → Overrun r p back top
    settling_false t = record { long = λ ps end e. t ps end e (g.chains ps end e) }
