-- All rows, step by step: durations and demands stand in the arrays as far as the walk has come, and the pairs met so far are counted.
use Prim.Native.Nat.{ℕ, ◌+◌, ◌-◌, ◌*◌, ◌≤◌, ◌<◌}
use native.Mathlib.Omega.{arith}
use mathlib.Core.Path.{◌≡◌, refl, sym, ap, ◌∙◌}
use mathlib.Core.List.{List, [], ◌∷◌, ◌++◌, append_assoc}
use mathlib.Core.Logic.{inl, inr}
use lib.ListN.{length, drop, take, length-append, replicate}
use Rattle.lists.proofs.Lists.{replicate_low}
use Rattle.lists.specs.Lists.{◌!◌}
use Rattle.std.specs.Prelude.{Ok}
use Rattle.joblist.specs.Limits.{most_time, most_jobs}
use Rattle.chains.specs.Paths.{Pair, pair, Precedes, Below}
use Rattle.texts.specs.Tokens.{Token, tokens}
use Rattle.texts.specs.Readings.{Read, bad, good}
use Rattle.walking.specs.Walk.{Seen, seeing, add_pair, add_row, see, Fit, StepSays}
use Rattle.walking.specs.declared.Walk.{Walk}
use Rattle.rowheads.specs.declared.Table.{Table}
use Rattle.walking.specs.declared.Step.TheVariants.{Successor}

-- what is left, behind what was seen
abbrev behind : List ℕ → List ℕ → List Pair → Read Seen → Read Seen
behind ds qs ps (bad c) = bad c
behind ds qs ps (good x ts) = good (record { durs = ds ++ x.durs; dems = qs ++ x.dems; pairs = ps ++ x.pairs }) ts

behind-nil : (r : Read Seen) → behind [] [] [] r ≡ r
behind-nil (bad c) = refl
behind-nil (good x ts) = refl

behind_pair : (ds qs : List ℕ) (ps : List Pair) (p : Pair) (r : Read Seen) → behind ds qs ps (add_pair p r) ≡ behind ds qs (ps ++ p ∷ []) r
behind_pair ds qs ps p (bad c) = refl
behind_pair ds qs ps p (good x ts) = rw (append_assoc ps (p ∷ []) x.pairs)

behind_row : (ds qs : List ℕ) (ps : List Pair) (d q : ℕ) (r : Read Seen) → behind ds qs ps (add_row d q r) ≡ behind (ds ++ d ∷ []) (qs ++ q ∷ []) ps r
behind_row ds qs ps d q (bad c) = refl
behind_row ds qs ps d q (good x ts) = rw (append_assoc ds (d ∷ []) x.durs, append_assoc qs (q ∷ []) x.dems)

below_snoc : (n : ℕ) (ps : List Pair) (p : Pair) → Below n (Precedes ps) → p.job < n → p.successor < n → Below n (Precedes (ps ++ p ∷ []))
below_snoc n [] p f h k a b (inl e) = (rw (← e.0) h, rw (← e.1) k)
below_snoc n [] p f h k a b (inr e) = absurd e
below_snoc n (x ∷ ps) p f h k a b (inl e) = f a b (inl e)
below_snoc n (x ∷ ps) p f h k a b (inr r) = below_snoc n ps p (λ c d q. f c d (inr q)) h k a b r

pub record Checking (n : ℕ) (table : Table) (res : ℕ) (t₀ : List Token) (s durs dems : List ℕ) (w : Walk) (pairs : ℕ) : Type 0 where
  pub fit : Fit n w
  pub room : pairs + w.left ≤ most_jobs * w.next
  pub ps : List Pair
  pub count : length ps ≡ pairs
  pub range : Below n (Precedes ps)
  pub long_durs : length durs ≡ most_jobs
  pub long_dems : length dems ≡ most_jobs
  pub low : (j : ℕ) → durs ! j ≤ most_time
  pub same : seeing n table res 0 0 t₀ ≡ behind (take w.next durs) (take w.next dems) ps (see n table res s w)

module _ (n : ℕ) (table : Table) (res : ℕ) (s : List ℕ) where
  pub checking_start : (at : ℕ) → Checking n table res (tokens (drop at s)) s (replicate most_jobs 0) (replicate most_jobs 0) (record { next = 0; left = 0; at = at }) 0
  checking_start at = record {
    fit = record { begun = omega arith; owned = omega arith };
    room = omega arith;
    ps = [];
    count = refl;
    range = λ a b r. absurd r;
    long_durs = refl;
    long_dems = refl;
    low = λ j. replicate_low most_jobs 0 most_time j (omega arith);
    same = sym (behind-nil (seeing n table res 0 0 (tokens (drop at s))));
  }

  module _ (t₀ : List Token) (durs dems : List ℕ) (w : Walk) (pairs : ℕ) (g : Checking n table res t₀ s durs dems w pairs) where
    pub checking_successor : (v : ℕ) (u : Walk) → StepSays n table res s w (Ok (Successor v u)) → Checking n table res t₀ s durs dems u (pairs + 1)
    checking_successor v u t =
        let p : Pair = pair (w.next - 1) v in
        record {
          fit = t.1;
          room = omega (arith, g.room, t.4, t.5);
          ps = g.ps ++ p ∷ [];
          count = omega (arith, g.count, length-append g.ps (p ∷ []));
          range = below_snoc n g.ps p g.range (omega (arith, g.fit.begun, g.fit.owned, t.5)) t.3;
          long_durs = g.long_durs;
          long_dems = g.long_dems;
          low = g.low;
          same =
              g.same ∙ ap (behind (take w.next durs) (take w.next dems) g.ps) t.0
              ∙ behind_pair (take w.next durs) (take w.next dems) g.ps p (see n table res s u)
              ∙ ap (λ (x : ℕ). behind (take x durs) (take x dems) (g.ps ++ p ∷ []) (see n table res s u)) (sym t.4);
        }
