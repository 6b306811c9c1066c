-- After m passes the value of a job is no less than any chain of m steps before it: m passes reach all that m steps can. Where there is no cycle,
-- a chain has fewer steps than there are jobs, so that as many passes as jobs give the longest chains.
use Prim.Native.Nat.{ℕ, zero, suc, ◌≤◌, ◌<◌}
use native.Mathlib.Omega.{arith}
use native.Mathlib.Decide.{dec_lt}
use mathlib.Core.Path.{◌≡◌, refl, sym, ◌∙◌, subst}
use mathlib.Core.List.{List}
use lib.ListN.{length, replicate, length-replicate}
use Rattle.lists.specs.Lists.{◌!◌}
use Rattle.lists.proofs.Lists.{zeros_at}
use Rattle.chains.specs.Paths.{Pair, Precedes, Below, Path, here, on, length_of, Cycle, Chain, Longest}
use Rattle.chains.specs.Passes.{Chained, pass, passes, longest}
use Rattle.chains.proofs.Chains.{chain_none, chain_of, long_cycle}
use Rattle.chains.proofs.Passes.{pass_length, pass_chained, pass_meets}

-- zeros are chains of no job
pub zeros_chained : (R : ℕ → ℕ → Type 0) (w : ℕ → ℕ) (m : ℕ) → Chained R w (replicate m 0)
zeros_chained R w m j = subst (Chain R w j) (sym (zeros_at m j)) chain_none

module _ (w : ℕ → ℕ) (ps : List Pair) where
  passes_last : (m : ℕ) (v : List ℕ) → passes w ps (suc m) v ≡ pass w ps (passes w ps m v)
  unfolding passes
  passes_last zero v = refl
  passes_last (suc m) v = passes_last m (pass w ps v)

  passes_length : (m : ℕ) (v : List ℕ) → length (passes w ps m v) ≡ length v
  unfolding passes
  passes_length zero v = refl
  passes_length (suc m) v = passes_length m (pass w ps v) ∙ pass_length w ps v

  passes_chained : (m : ℕ) (v : List ℕ) → Chained (Precedes ps) w v → Chained (Precedes ps) w (passes w ps m v)
  unfolding passes
  passes_chained zero v q = q
  passes_chained (suc m) v q = passes_chained m (pass w ps v) (pass_chained w (Precedes ps) ps v (λ a b r. r) q)

  module _ (n : ℕ) (range : Below n (Precedes ps)) where
    pub passes_most : (m : ℕ) (v : List ℕ) → n ≤ length v → {a j : ℕ} (t : Path (Precedes ps) a j) → length_of (λ i. 1) t ≤ m → length_of w t ≤ passes w ps m v ! j
    passes_most m v l here h = omega arith
    passes_most zero v l (on t r) h = absurd (omega arith)
    passes_most (suc m) v l (on {a} {b} {c} t r) h =
        rw (passes_last m v)
        (omega (arith, passes_most m v l t (omega arith), pass_meets w ps (passes w ps m v) b c r (rw (passes_length m v) (omega (arith, (range b c r).1)))))

    pub longest_chained : Chained (Precedes ps) w (longest w ps n)
    unfolding longest
    longest_chained = passes_chained n (replicate n 0) (zeros_chained (Precedes ps) w n)

    -- it is no less than a chain of n steps or fewer
    pub longest_most : {a j : ℕ} (t : Path (Precedes ps) a j) → length_of (λ i. 1) t ≤ n → length_of w t ≤ longest w ps n ! j
    unfolding longest
    longest_most t h = passes_most n (replicate n 0) (rw (length-replicate {A = ℕ} n 0) (omega arith)) t h

    module _ (calm : Cycle (Precedes ps) → ⊥) where
      few_steps : {a j : ℕ} → j < n → (t : Path (Precedes ps) a j) → length_of (λ i. 1) t < n
      few_steps b t = elim (dec_lt (length_of (λ i. 1) t) n) [ yes h ↦ h | no h ↦ absurd (calm (long_cycle (Precedes ps) n range b (omega arith) (chain_of (λ i. 1) t))) ]

      pub longest_is : (j : ℕ) → j < n → Longest (Precedes ps) w j (longest w ps n ! j)
      longest_is j b = record {
        one = longest_chained j;
        most = λ M c. omega (arith, longest_most c.path (omega (arith, few_steps b c.path)), c.long);
      }
