-- Chains and values. Values that no pair raises bound every path before a job and every path after it; values 1 apart shut out a cycle; a chain of
-- as many steps as there are jobs has a cycle on it.
use Prim.Native.Nat.{ℕ, zero, suc, ◌+◌, ◌-◌, ◌≤◌, ◌<◌}
use native.Mathlib.Omega.{arith}
use mathlib.Core.Path.{◌≡◌, refl, sym, ap, ◌∙◌, subst}
use mathlib.Core.List.{List}
use Rattle.lists.specs.Lists.{◌!◌}
use Rattle.chains.specs.Paths.{Below, Path, here, on, length_of, Cycle, Chain, Longest, Back}
use Rattle.chains.specs.Passes.{NoneRaises, Chained}
use Rattle.chains.proofs.Holes.{holes}

-- no job before j
pub chain_none : {R : ℕ → ℕ → Type 0} {w : ℕ → ℕ} {j : ℕ} → Chain R w j 0
chain_none {j = j} = record { from = j; path = here; long = refl }

-- a chain before i, then i, then j
pub chain_on : {R : ℕ → ℕ → Type 0} {w : ℕ → ℕ} {i j L : ℕ} → R i j → Chain R w i L → Chain R w j (L + w i)
chain_on {w = w} {i = i} r c = record { from = c.from; path = on c.path r; long = ap (λ x. x + w i) c.long }

-- a path alone is a chain
pub chain_of : {R : ℕ → ℕ → Type 0} (w : ℕ → ℕ) {a j : ℕ} (t : Path R a j) → Chain R w j (length_of w t)
chain_of w {a} t = record { from = a; path = t; long = refl }

pub longest_unique : (R : ℕ → ℕ → Type 0) (w : ℕ → ℕ) (j L M : ℕ) → Longest R w j L → Longest R w j M → L ≡ M
longest_unique R w j L M f g = omega (arith, f.most M g.one, g.most L f.one)

module _ (R : ℕ → ℕ → Type 0) (w : ℕ → ℕ) (v : List ℕ) (s : NoneRaises R w v) where
  -- along a path the values rise by its length
  pub stable_path : {a j : ℕ} (t : Path R a j) → v ! a + length_of w t ≤ v ! j
  stable_path here = omega arith
  stable_path (on {a} {b} {c} t r) = omega (arith, stable_path t, s b c r)

  pub stable_most : {j L : ℕ} → Chain R w j L → L ≤ v ! j
  stable_most c = omega (arith, stable_path c.path, c.long)

  pub stable_longest : Chained R w v → (j : ℕ) → Longest R w j (v ! j)
  stable_longest q j = record { one = q j; most = λ M c. stable_most c }

  -- a path after j: what stands at its far end is later by j's duration and its length
  pub stable_back : {a j : ℕ} (t : Path (Back R) a j) → v ! j + w j + length_of w t ≤ v ! a + w a
  stable_back here = omega arith
  stable_back (on {a} {b} {c} t r) = omega (arith, stable_back t, s c b r)

  -- the same of a chain after j, whose far end is where it starts
  pub stable_after : {j L : ℕ} (c : Chain (Back R) w j L) → v ! j + w j + L ≤ v ! c.from + w c.from
  stable_after c = omega (arith, stable_back c.path, c.long)

  -- with durations of 1 or more there is no cycle
  pub stable_acyclic : ((i : ℕ) → 0 < w i) → Cycle R → ⊥
  stable_acyclic h c = omega (arith, stable_path c.path, s c.last c.at c.back, h c.last)

-- ---- other pairs, other durations

path_map : (R S : ℕ → ℕ → Type 0) (w u : ℕ → ℕ) → ((a b : ℕ) → R a b → S a b × (w a ≡ u a)) → {a j : ℕ} (t : Path R a j) → (x : Path S a j) × (length_of u x ≡ length_of w t)
path_map R S w u f here = (here, refl)
path_map R S w u f (on {a} {b} {c} t r) = let x = path_map R S w u f t in (on x.0 (f b c r).0, omega (arith, x.1, (f b c r).1))

pub chain_map : (R S : ℕ → ℕ → Type 0) (w u : ℕ → ℕ) → ((a b : ℕ) → R a b → S a b × (w a ≡ u a)) → {j L : ℕ} → Chain R w j L → Chain S u j L
chain_map R S w u f c = let x = path_map R S w u f c.path in record { from = c.from; path = x.0; long = x.1 ∙ c.long }

-- a path starts below n where it ends there
path_starts : (R : ℕ → ℕ → Type 0) (n : ℕ) → Below n R → {a j : ℕ} → Path R a j → j < n → a < n
path_starts R n q here h = h
path_starts R n q (on {a} {b} {c} t r) h = path_starts R n q t (q b c r).0

pub chain_starts : (R : ℕ → ℕ → Type 0) (n : ℕ) (w : ℕ → ℕ) → Below n R → {j L : ℕ} (c : Chain R w j L) → j < n → c.from < n
chain_starts R n w q c h = path_starts R n q c.path h

path_inside : (R : ℕ → ℕ → Type 0) (n : ℕ) (w : ℕ → ℕ) → Below n R → {a j : ℕ} (t : Path R a j) → 0 < length_of w t → j < n
path_inside R n w q here h = absurd (omega arith)
path_inside R n w q (on {a} {b} {c} t r) h = (q b c r).1

-- a chain with something in it ends below n
pub chain_inside : (R : ℕ → ℕ → Type 0) (n : ℕ) (w : ℕ → ℕ) → Below n R → {j L : ℕ} → 0 < L → Chain R w j L → j < n
chain_inside R n w q h c = path_inside R n w q c.path (omega (arith, c.long))

-- ---- as many steps as jobs

-- the jobs of a path from its last one back
record Steps (R : ℕ → ℕ → Type 0) (j m : ℕ) : Type 0 where
  at : ℕ → ℕ
  ends : at 0 ≡ j
  steps : (i : ℕ) → i < m → R (at (suc i)) (at i)

abbrev ahead : ℕ → (ℕ → ℕ) → ℕ → ℕ
ahead j f zero = j
ahead j f (suc i) = f i

ahead_steps : (R : ℕ → ℕ → Type 0) (j m : ℕ) (f : ℕ → ℕ) → R (f 0) j → ((i : ℕ) → i < m → R (f (suc i)) (f i)) → (i : ℕ) → i < suc m → R (ahead j f (suc i)) (ahead j f i)
ahead_steps R j m f r g zero h = r
ahead_steps R j m f r g (suc i) h = g i (omega arith)

steps_of : (R : ℕ → ℕ → Type 0) {a j : ℕ} (t : Path R a j) → Steps R j (length_of (λ i. 1) t)
steps_of R {a} here = record { at = λ i. a; ends = refl; steps = λ i h. absurd (omega arith) }
steps_of R (on {a} {b} {c} t r) =
    let s = steps_of R t in
    record {
      at = ahead c s.at;
      ends = refl;
      steps = λ k h. ahead_steps R c (length_of (λ i. 1) t) s.at (subst (λ (x : ℕ). R x c) (sym s.ends) r) s.steps k (omega arith);
    }

-- d steps that end at place lo
along : (R : ℕ → ℕ → Type 0) (f : ℕ → ℕ) (m : ℕ) → ((i : ℕ) → i < m → R (f (suc i)) (f i)) → (d lo : ℕ) → lo + d ≤ m → Path R (f (lo + d)) (f lo)
along R f m g zero lo h = let e : lo + 0 ≡ lo = omega arith in subst (λ (x : ℕ). Path R (f x) (f lo)) (sym e) here
along R f m g (suc d) lo h =
    let e : lo + suc d ≡ suc lo + d = omega arith in
    subst (λ (x : ℕ). Path R (f x) (f lo)) (sym e) (on (along R f m g d (suc lo) (omega arith)) (g lo (omega arith)))

steps_cycle : (R : ℕ → ℕ → Type 0) (n j m : ℕ) → Below n R → j < n → n ≤ m → Steps R j m → Cycle R
steps_cycle R n j m q b k t =
    let z = holes n t.at inside in
    let e : suc z.lo + (z.hi - suc z.lo) ≡ z.hi = omega (arith, z.less) in
    record {
      at = t.at z.hi;
      last = t.at (suc z.lo);
      path = subst (λ (x : ℕ). Path R (t.at x) (t.at (suc z.lo))) e (along R t.at m t.steps (z.hi - suc z.lo) (suc z.lo) (omega (arith, z.less, z.within)));
      back = subst (λ (x : ℕ). R (t.at (suc z.lo)) x) z.same (t.steps z.lo (omega (arith, z.less, z.within)));
    }
  where
    inside : (i : ℕ) → i ≤ n → t.at i < n
    inside zero h = rw t.ends b
    inside (suc i) h = (q (t.at (suc i)) (t.at i) (t.steps i (omega arith))).0

pub long_cycle : (R : ℕ → ℕ → Type 0) (n : ℕ) {j m : ℕ} → Below n R → j < n → n ≤ m → Chain R (λ i. 1) j m → Cycle R
long_cycle R n {j} {m} q b h c = steps_cycle R n j (length_of (λ i. 1) c.path) q b (omega (arith, c.long)) (steps_of R c.path)
