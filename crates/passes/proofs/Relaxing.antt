-- A round so far: the values are those that the pairs passed have made of the first ones, and the rest of the pairs makes of them what all pairs
-- make of the first.
use Prim.Native.Nat.{ℕ, ◌+◌, ◌≤◌, ◌<◌}
use native.Mathlib.Omega.{arith}
use mathlib.Core.Path.{◌≡◌, refl, sym, ap, ◌∙◌, subst}
use mathlib.Core.Bool.{Bool, true, false, cond}
use mathlib.Core.List.{List, [], ◌∷◌}
use mathlib.Core.Logic.{inl, inr}
use lib.ListN.{length, set, length-set}
use lib.Seq.{get_or-set_same}
use Rattle.lists.specs.Lists.{◌!◌}
use Rattle.lists.proofs.Lists.{set_any}
use Rattle.lists.proofs.Differences.{total_less}
use Rattle.lists.proofs.Sets.{clash}
use Rattle.joblist.specs.Limits.{most_jobs}
use Rattle.chains.specs.Paths.{Pair, pair, Precedes, flipped, weight}
use Rattle.chains.specs.Passes.{Chained, raise, pass}
use Rattle.chains.proofs.Chains.{chain_on}
use Rattle.chains.proofs.Passes.{raise_kept, raise_rose, raise_chained}
use Rattle.texts.specs.Tokens.{Token}
use Rattle.texts.specs.Readings.{Read, good}
use Rattle.passes.specs.declared.Rise.TheVariants.{Kept, Rose, High}
use Rattle.passes.specs.declared.Round.TheVariants.{Same, Changed, Over}
use Rattle.passes.specs.Rounds.{RiseSays, sum, RoundSays}

-- a value raised raises the sum
sum_set : (v : List ℕ) (j x : ℕ) → length v ≡ most_jobs → j < most_jobs → v ! j < x → sum v < sum (set v j x)
sum_set v j x l b h =
    total_less (λ i. v ! i) (λ i. set v j x ! i) most_jobs j
    (λ i c. set_any (λ (y : ℕ). v ! i ≤ y) v j x i (λ e. rw e (omega arith)) (omega arith)) b (rw (get_or-set_same v j x 0 (omega arith)) h)

module _ (w : ℕ → ℕ) (a b : ℕ) (rest : List Pair) where
  pass_flipped : (back : Bool) (v : List ℕ) → pass w (flipped back (pair a b ∷ rest)) v ≡ pass w (flipped back rest) (raise w (cond back b a) (cond back a b) v)
  unfolding pass
  pass_flipped true v = refl
  pass_flipped false v = refl

  first_flipped : (back : Bool) → Precedes (flipped back (pair a b ∷ rest)) (cond back b a) (cond back a b)
  first_flipped true = inl (refl, refl)
  first_flipped false = inl (refl, refl)

cond_below : (t : Bool) (a b m : ℕ) → a < m → b < m → cond t a b < m
cond_below true a b m h k = h
cond_below false a b m h k = k

-- both jobs of a pair, as a round takes it, are among the jobs
pub both_below : (back : Bool) (a b i j n m : ℕ) → i ≡ cond back b a → j ≡ cond back a b → a < n → b < n → n ≤ m → (i < m) × (j < m)
both_below back a b i j n m ei ej h k l = (rw ei (cond_below back b a m (omega arith) (omega arith)), rw ej (cond_below back a b m (omega arith) (omega arith)))

-- a and b are the next pair, and `later` is the reading behind it
abbrev pub Ahead : Read (List Pair) → ℕ → ℕ → Read (List Pair) → Type 0
Ahead now a b later = (ps : List Pair) (end : List Token) → now ≡ good ps end → (rest : List Pair) × (ps ≡ pair a b ∷ rest) × (later ≡ good rest end)

pub record Following (p : List ℕ) (back : Bool) (v₀ v : List ℕ) (now : Read (List Pair)) (ps : List Pair) (end : List Token) : Type 0 where
  pub rest : List Pair
  pub ahead : now ≡ good rest end
  pub same : pass (weight p) (flipped back ps) v₀ ≡ pass (weight p) (flipped back rest) v
  pub part : (a b : ℕ) → Precedes (flipped back rest) a b → Precedes (flipped back ps) a b
  pub chains : Chained (Precedes (flipped back ps)) (weight p) v₀ → Chained (Precedes (flipped back ps)) (weight p) v

-- r is the reading of all pairs, `now` that of the pairs still to come
pub record Relaxing (r now : Read (List Pair)) (p : List ℕ) (back : Bool) (top : ℕ) (v₀ v : List ℕ) (changed : Bool) : Type 0 where
  pub long : length v ≡ most_jobs
  pub low : (j : ℕ) → v ! j ≤ top
  pub still : changed ≡ false → v ≡ v₀
  pub more : changed ≡ true → sum v₀ < sum v
  pub least : sum v₀ ≤ sum v
  pub follow : (ps : List Pair) (end : List Token) → r ≡ good ps end → Following p back v₀ v now ps end

module _ (r : Read (List Pair)) (p : List ℕ) (back : Bool) (top : ℕ) where
  pub relaxing_start : (v : List ℕ) → length v ≡ most_jobs → ((j : ℕ) → v ! j ≤ top) → Relaxing r r p back top v v false
  relaxing_start v l low = record {
    long = l;
    low = low;
    still = λ e. refl;
    more = λ e. clash true refl (sym e);
    least = omega arith;
    follow = λ ps end e. record { rest = ps; ahead = e; same = refl; part = λ a b d. d; chains = λ q. q };
  }

  module _ (now : Read (List Pair)) (v₀ v : List ℕ) (changed : Bool) (g : Relaxing r now p back top v₀ v changed) where
    module _ (a b : ℕ) (later : Read (List Pair)) (t : Ahead now a b later) where
      -- the pair, and those behind it
      taken : (ps : List Pair) (end : List Token) (e : r ≡ good ps end) → (d : List Pair) × ((g.follow ps end e).rest ≡ pair a b ∷ d) × (later ≡ good d end)
          × ((x y : ℕ) → Precedes (flipped back (pair a b ∷ d)) x y → Precedes (flipped back ps) x y)
      taken ps end e =
          let f = g.follow ps end e in
          let d = t f.rest end f.ahead in
          (d.0, d.1, d.2, subst (λ (l : List Pair). (x y : ℕ) → Precedes (flipped back l) x y → Precedes (flipped back ps) x y) d.1 f.part)

      module _ (i j : ℕ) (ei : i ≡ cond back b a) (ej : j ≡ cond back a b) where
        -- the pair as the round takes it, from i to j
        step_in : (ps : List Pair) (end : List Token) → r ≡ good ps end → Precedes (flipped back ps) i j
        step_in ps end e = let d = taken ps end e in rw (ei, ej) (d.3 _ _ (first_flipped (weight p) a b d.0 back))

        followed : (v' : List ℕ) → v' ≡ raise (weight p) i j v → (ps : List Pair) (end : List Token) → r ≡ good ps end → Following p back v₀ v' later ps end
        followed v' ev ps end e =
            let f = g.follow ps end e in
            let d = taken ps end e in
            record {
              rest = d.0;
              ahead = d.2;
              same = f.same ∙ ap (λ (l : List Pair). pass (weight p) (flipped back l) v) d.1 ∙ pass_flipped (weight p) a b d.0 back v ∙ rw (ev, ei, ej);
              part = λ x y q. d.3 x y (inr q);
              chains = λ q. rw ev (raise_chained (weight p) i j v (Precedes (flipped back ps)) (step_in ps end e) (f.chains q));
            }

        pub relaxing_kept : (v' : List ℕ) → RiseSays v v' i j (p ! i) top Kept → Relaxing r later p back top v₀ v' changed
        relaxing_kept v' h = record {
          long = ap length h.0 ∙ g.long;
          low = rw h.0 g.low;
          still = λ e. h.0 ∙ g.still e;
          more = rw h.0 g.more;
          least = rw h.0 g.least;
          follow = followed v' (h.0 ∙ sym (raise_kept (weight p) i j v h.1));
        }

        pub relaxing_rose : (v' : List ℕ) → j < most_jobs → RiseSays v v' i j (p ! i) top Rose → Relaxing r later p back top v₀ v' true
        relaxing_rose v' below h =
            let more : sum v < sum v' = rw h.0 (sum_set v j (v ! i + p ! i) g.long below h.1) in
            record {
              long = rw h.0 (length-set v j (v ! i + p ! i) ∙ g.long);
              low = λ x. rw h.0 (set_any (λ (z : ℕ). z ≤ top) v j (v ! i + p ! i) x (λ e. h.2) (g.low x));
              still = λ e. clash true refl e;
              more = λ e. omega (arith, g.least, more);
              least = omega (arith, g.least, more);
              follow = followed v' (h.0 ∙ sym (raise_rose (weight p) i j v h.1));
            }

        pub relaxing_over : (v' : List ℕ) → RiseSays v v' i j (p ! i) top High → RoundSays r p back top v₀ v' Over
        relaxing_over v' h ps end e q = record { at = j; length = v ! i + p ! i; chain = chain_on (step_in ps end e) ((g.follow ps end e).chains q i); over = h.1 }

    module _ (t : (ps : List Pair) (end : List Token) → now ≡ good ps end → ps ≡ []) where
      ended : (ps : List Pair) (end : List Token) → r ≡ good ps end → pass (weight p) (flipped back ps) v₀ ≡ v
      unfolding pass
      ended ps end e = let f = g.follow ps end e in f.same ∙ ap (λ (l : List Pair). pass (weight p) (flipped back l) v) (t f.rest end f.ahead)

      pub relaxing_same : changed ≡ false → RoundSays r p back top v₀ v Same
      relaxing_same c = (g.still c, λ ps end e. ended ps end e ∙ g.still c)

      pub relaxing_changed : changed ≡ true → RoundSays r p back top v₀ v Changed
      relaxing_changed c = (g.more c, g.low, λ ps end e. sym (ended ps end e))
