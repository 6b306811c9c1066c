-- The test for a cycle stands for the fact: going round a cycle often enough makes a chain of as many steps as there are jobs.
use Prim.Native.Nat.{ℕ, zero, suc, ◌+◌, ◌≤◌, ◌<◌}
use native.Mathlib.Omega.{arith}
use mathlib.Core.Path.{◌≡◌, refl}
use mathlib.Core.List.{List}
use lib.Dec.{ltb}
use Rattle.lists.specs.Lists.{◌!◌}
use Rattle.lists.proofs.Judged.{Judged, judged_every, judged_ltb}
use Rattle.chains.specs.Paths.{Pair, Precedes, Below, Path, here, on, length_of, Cycle, Back}
use Rattle.chains.specs.Passes.{longest, acyclic?}
use Rattle.chains.proofs.Chains.{long_cycle}
use Rattle.chains.proofs.Longest.{longest_chained, longest_most}

abbrev steps : {R : ℕ → ℕ → Type 0} {a b : ℕ} → Path R a b → ℕ
steps t = length_of (λ i. 1) t

joined : {R : ℕ → ℕ → Type 0} {a b c : ℕ} (t : Path R a b) (u : Path R b c) → (x : Path R a c) × (steps x ≡ steps t + steps u)
joined t here = (t, omega arith)
joined t (on u r) = let x = joined t u in (on x.0 r, omega (arith, x.1))

-- round a cycle at least m times
rounds : {R : ℕ → ℕ → Type 0} (c : Cycle R) (m : ℕ) → (x : Path R c.at c.at) × (m ≤ steps x)
rounds c zero = (here, omega arith)
rounds c (suc m) =
    let x = rounds c m in
    let y = joined x.0 (on c.path c.back) in
    (y.0, omega (arith, x.1, y.1))

-- its last m steps
shortened : {R : ℕ → ℕ → Type 0} {a j : ℕ} (m : ℕ) (t : Path R a j) → m ≤ steps t → (b : ℕ) × (x : Path R b j) × (steps x ≡ m)
shortened {j = j} zero t h = (j, here, refl)
shortened (suc m) here h = absurd (omega arith)
shortened (suc m) (on t r) h = let x = shortened m t (omega arith) in (x.0, on x.1 r, omega (arith, x.2))

-- ---- the other way round

before : {R : ℕ → ℕ → Type 0} {a b c : ℕ} → R a b → Path R b c → Path R a c
before r here = on here r
before r (on t s) = on (before r t) s

turned_path : {R : ℕ → ℕ → Type 0} {a b : ℕ} → Path (Back R) a b → Path R b a
turned_path here = here
turned_path (on t r) = before r (turned_path t)

pub cycle_back : (R : ℕ → ℕ → Type 0) → Cycle (Back R) → Cycle R
cycle_back R c = record { at = c.last; last = c.at; path = turned_path c.path; back = c.back }

pub cycle_map : (R S : ℕ → ℕ → Type 0) → ((a b : ℕ) → R a b → S a b) → Cycle R → Cycle S
cycle_map R S f c = record { at = c.at; last = c.last; path = path_map c.path; back = f c.last c.at c.back }
  where
    path_map : {a b : ℕ} → Path R a b → Path S a b
    path_map here = here
    path_map (on {a} {b} {c} t r) = on (path_map t) (f b c r)

-- ---- the test

module _ (ps : List Pair) (n : ℕ) (range : Below n (Precedes ps)) where
  cycle_long : Cycle (Precedes ps) → (j : ℕ) × (j < n) × (n ≤ longest (λ i. 1) ps n ! j)
  cycle_long c =
      let x = rounds c n in
      let y = shortened n x.0 x.1 in
      (c.at, (range c.last c.at c.back).1, omega (arith, longest_most (λ i. 1) ps n range y.1 (omega (arith, y.2)), y.2))

  pub judged_acyclic : Judged (Cycle (Precedes ps) → ⊥) (Cycle (Precedes ps)) (acyclic? ps n)
  unfolding acyclic?
  judged_acyclic =
      let j = judged_every (λ j. longest (λ i. 1) ps n ! j < n) (λ j. n ≤ longest (λ i. 1) ps n ! j) (λ j. ltb (longest (λ i. 1) ps n ! j) n) (λ j. judged_ltb (longest (λ i. 1) ps n ! j) n) n in
      record {
        passed = λ h c. j.apart (j.passed h) (cycle_long c);
        failed = λ h. let x = j.failed h in long_cycle (Precedes ps) n range x.1 x.2 (longest_chained (λ i. 1) ps n range x.0);
        apart = λ f g. f g;
      }
