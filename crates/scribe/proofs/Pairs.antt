-- Pairs in strictly rising order, one by one, and how many there can be.
use Prim.Native.Nat.{ℕ, suc, ◌+◌, ◌*◌, ◌≤◌, ◌<◌}
use native.Mathlib.Omega.{arith}
use native.Mathlib.Nat.{mul-le-mul_right}
use mathlib.Core.Path.{◌≡◌, sym}
use mathlib.Core.List.{List, [], ◌∷◌}
use mathlib.Core.Logic.{◌⊎◌, inl, inr}
use lib.ListN.{length}
use Rattle.lists.specs.Lists.{Every}
use Rattle.lists.proofs.Every.{every_map, Climbs, climb_few}
use Rattle.chains.specs.Paths.{Pair, pair}
use Rattle.chains.specs.Listed.{paired, Rising}
use Rattle.chains.proofs.Listed.{paired_length}

-- ---- pairs that rise

-- x comes before y
abbrev pub Before : Pair → Pair → Type 0
Before x y = (x.job < y.job) ⊎ ((x.job ≡ y.job) × (x.successor < y.successor))

before_trans : (x y z : Pair) → Before x y → Before y z → Before x z
before_trans x y z (inl a) (inl b) = inl (omega arith)
before_trans x y z (inl a) (inr b) = inl (omega arith)
before_trans x y z (inr a) (inl b) = inl (omega arith)
before_trans x y z (inr a) (inr b) = inr (omega arith)

-- every pair is of the n jobs, and comes before all behind it
abbrev pub Ups : ℕ → List Pair → Type 0
Ups n [] = Unit {0}
Ups n (x ∷ ps) = ((x.job < n) × (x.successor < n)) × Every (Before x) ps × Ups n ps

rising_rest : (n j s : ℕ) (js ss : List ℕ) → Rising n (j ∷ js) (s ∷ ss) → Rising n js ss
rising_rest n j s js ss h = record { range = λ i b. h.range (suc i) (omega arith); order = λ i b. h.order (suc i) (omega arith) }

pub rising_ups : (n : ℕ) (js ss : List ℕ) → Rising n js ss → length js ≡ length ss → Ups n (paired js ss)
rising_ups n [] ss h e = tt
rising_ups n (j ∷ js) [] h e = tt
rising_ups n (j ∷ []) (s ∷ []) h e = (h.range 0 (omega arith), tt, tt)
rising_ups n (j ∷ []) (s ∷ s' ∷ ss) h e = absurd (omega arith)
rising_ups n (j ∷ j' ∷ js) (s ∷ []) h e = absurd (omega arith)
rising_ups n (j ∷ j' ∷ js) (s ∷ s' ∷ ss) h e =
    let r = rising_ups n (j' ∷ js) (s' ∷ ss) (rising_rest n j s (j' ∷ js) (s' ∷ ss) h) (omega arith) in
    let b = h.order 0 (omega arith) in
    (h.range 0 (omega arith), (b, every_map (Before (pair j' s')) (Before (pair j s)) (λ z. before_trans (pair j s) (pair j' s') z b) (paired js ss) r.1), r)

-- ---- how many pairs

-- a pair's number among all n * n
abbrev code : ℕ → Pair → ℕ
code n x = x.job * n + x.successor

code_less : (n : ℕ) (x y : Pair) → x.successor < n → Before x y → code n x < code n y
code_less n x y h (inl b) = omega (arith, mul-le-mul_right n b)
code_less n x y h (inr b) = rw b.0 (omega arith)

code_top : (n : ℕ) (x : Pair) → (x.job < n) × (x.successor < n) → code n x < n * n
code_top n x h = omega (arith, mul-le-mul_right n h.0)

ups_climb : (n : ℕ) (ps : List Pair) → Ups n ps → Climbs (code n) ps
ups_climb n [] h = tt
ups_climb n (x ∷ ps) h = (every_map (Before x) (λ y. code n x < code n y) (λ y b. code_less n x y h.0.1 b) ps h.1, ups_climb n ps h.2)

pub ups_range : (n : ℕ) (ps : List Pair) → Ups n ps → Every (λ x. (x.job < n) × (x.successor < n)) ps
ups_range n [] h = tt
ups_range n (x ∷ ps) h = (h.0, ups_range n ps h.2)

pub rising_few : (n : ℕ) (js ss : List ℕ) → Rising n js ss → length js ≡ length ss → length js ≤ n * n
rising_few n js ss h e =
    let u = rising_ups n js ss h e in
    let q = climb_few (code n) (n * n) (paired js ss) (ups_climb n (paired js ss) u)
    (every_map (λ x. (x.job < n) × (x.successor < n)) (λ x. code n x < n * n) (code_top n) (paired js ss) (ups_range n (paired js ss) u)) in
    omega (arith, q, paired_length js ss (sym e))
