-- Pairs in two lists: they are the pairs that stand at the lists' places, and pairs in rising order and pairs that are not are never both there.
use Prim.Native.Nat.{ℕ, zero, suc, ◌≤◌, ◌<◌}
use native.Mathlib.Omega.{arith}
use mathlib.Core.Path.{◌≡◌, refl, sym, ap, ◌∙◌}
use mathlib.Core.List.{List, [], ◌∷◌, map}
use mathlib.Core.Logic.{inl, inr}
use lib.ListN.{length, drop, drop_of_length-le}
use Rattle.lists.specs.Lists.{◌!◌}
use Rattle.chains.specs.Paths.{Pair, pair, Precedes, Listed, Below}
use Rattle.chains.specs.Listed.{paired, PairInRange, InOrder, Rising, PairOutOfRange, OutOfOrder, NotRising}

pub paired_length : (js ss : List ℕ) → length ss ≡ length js → length (paired js ss) ≡ length js
paired_length [] ss e = refl
paired_length (j ∷ js) [] e = absurd (omega arith)
paired_length (j ∷ js) (s ∷ ss) e = let q = paired_length js ss (omega arith) in omega (arith, q)

-- the jobs and the successors of pairs that stand in two lists of one length
pub paired_jobs : (js ss : List ℕ) → length ss ≡ length js → map (λ (p : Pair). p.job) (paired js ss) ≡ js
paired_jobs [] ss e = refl
paired_jobs (j ∷ js) [] e = absurd (omega arith)
paired_jobs (j ∷ js) (s ∷ ss) e = let h : length ss ≡ length js = omega arith in ap (λ (l : List ℕ). j ∷ l) (paired_jobs js ss h)

pub paired_successors : (js ss : List ℕ) → length ss ≡ length js → map (λ (p : Pair). p.successor) (paired js ss) ≡ ss
paired_successors [] [] e = refl
paired_successors [] (s ∷ ss) e = absurd (omega arith)
paired_successors (j ∷ js) [] e = absurd (omega arith)
paired_successors (j ∷ js) (s ∷ ss) e = let h : length ss ≡ length js = omega arith in ap (λ (l : List ℕ). s ∷ l) (paired_successors js ss h)

-- ---- one of the pairs, and its place in the lists of their jobs and of their successors

pub pair_listed : (ps : List Pair) (a b : ℕ) → Precedes ps a b → Listed (map (λ (p : Pair). p.job) ps) (map (λ (p : Pair). p.successor) ps) (length ps) a b
pair_listed [] a b r = absurd r
pair_listed (x ∷ ps) a b (inl e) = (0, omega arith, e.0, e.1)
pair_listed (x ∷ ps) a b (inr r) = let q = pair_listed ps a b r in (suc q.0, omega (arith, q.1), q.2, q.3)

pub listed_pair : (ps : List Pair) (a b : ℕ) → Listed (map (λ (p : Pair). p.job) ps) (map (λ (p : Pair). p.successor) ps) (length ps) a b → Precedes ps a b
listed_pair [] a b (i, h, p, q) = absurd (omega arith)
listed_pair (x ∷ ps) a b (zero, h, p, q) = inl (p, q)
listed_pair (x ∷ ps) a b (suc i, h, p, q) = inr (listed_pair ps a b (i, omega arith, p, q))

pub paired_below : (n : ℕ) (js ss : List ℕ) → length ss ≡ length js → ((i : ℕ) → i < length js → PairInRange n js ss i) → Below n (Precedes (paired js ss))
paired_below n js ss e f a b r =
    let q = pair_listed (paired js ss) a b r in
    let g = f q.0 (omega (arith, q.1, paired_length js ss e)) in
    let job : js ! q.0 ≡ a = ap (λ (l : List ℕ). l ! q.0) (sym (paired_jobs js ss e)) ∙ q.2 in
    let successor : ss ! q.0 ≡ b = ap (λ (l : List ℕ). l ! q.0) (sym (paired_successors js ss e)) ∙ q.3 in
    (omega (arith, job, g.0), omega (arith, successor, g.1))

-- ---- the pairs from a place on

pub paired_next : (js ss : List ℕ) → length ss ≡ length js → (i : ℕ) → i < length js → drop i (paired js ss) ≡ pair (js ! i) (ss ! i) ∷ drop (suc i) (paired js ss)
paired_next [] ss e i h = absurd (omega arith)
paired_next (j ∷ js) [] e i h = absurd (omega arith)
paired_next (j ∷ js) (s ∷ ss) e zero h = refl
paired_next (j ∷ js) (s ∷ ss) e (suc i) h = paired_next js ss (omega arith) i (omega arith)

pub paired_end : (js ss : List ℕ) → length ss ≡ length js → (i : ℕ) → length js ≤ i → drop i (paired js ss) ≡ []
paired_end js ss e i h = drop_of_length-le (paired js ss) {i = i} (omega (arith, paired_length js ss e))

-- ---- the order of the pairs

module _ (n : ℕ) (js ss : List ℕ) (i : ℕ) where
  range-one : PairInRange n js ss i → PairOutOfRange n js ss i → ⊥
  range-one f (inl h) = omega (arith, f.0)
  range-one f (inr h) = omega (arith, f.1)

  order_one : InOrder js ss i → OutOfOrder js ss i → ⊥
  order_one (inl f) (inl h) = omega arith
  order_one (inl f) (inr h) = omega (arith, h.0)
  order_one (inr f) (inl h) = omega (arith, f.0)
  order_one (inr f) (inr h) = omega (arith, f.1, h.1)

-- pairs are in range and in rising order or they are not
pub rising_one : (n : ℕ) (js ss : List ℕ) → Rising n js ss → NotRising n js ss → ⊥
rising_one n js ss f (inl h) = range-one n js ss h.0 (f.range h.0 h.1) h.2
rising_one n js ss f (inr h) = order_one n js ss h.0 (f.order h.0 h.1) h.2
