-- Tests and the facts that they stand for.
use Prim.Native.Nat.{ℕ, zero, suc, ◌+◌, ◌≤◌, ◌<◌}
use native.Mathlib.Omega.{arith}
use native.Mathlib.Numerals.{add-one}
use native.Mathlib.Decide.{ℕ_discrete, dec_le}
use mathlib.Core.Path.{◌≡◌, refl, sym}
use mathlib.Core.Bool.{Bool, true, false}
use mathlib.Core.Logic.{◌⊎◌, inl, inr}
use lib.Dec.{leb}
use borrow.Author.Tests.{le-leb, lt-leb, lt-ltb, le-ltb}
use Rattle.lists.specs.Tests.{both, either, between, only, failed_or, every}

pub both_true : (a b : Bool) → both a b ≡ true → (a ≡ true) × (b ≡ true)
both_true true b h = (refl, h)
both_true false b h = (h, cc)

pub true_both : (a b : Bool) → a ≡ true → b ≡ true → both a b ≡ true
true_both a b h k = rw (h, k)

pub both_yes : (a : Bool) → both a true ≡ a
both_yes true = refl
both_yes false = refl

pub both_false : (a : Bool) → both a false ≡ false
both_false true = refl
both_false false = refl

-- the number of a test that failed before stands
pub or_first : (k x : ℕ) → (k ≡ 0 → ⊥) → failed_or k x ≡ k
or_first zero x h = absurd (h refl)
or_first (suc k) x h = refl

-- t from lo up to hi, before it, behind it
module _ (lo hi t : ℕ) where
  pub between_yes : lo ≤ t → t < hi → between lo hi t ≡ true
  between_yes a b = rw (le-leb lo t a, lt-ltb t hi b)

  pub between_before : t < lo → between lo hi t ≡ false
  between_before a = rw (lt-leb lo t a)

  pub between_behind : hi ≤ t → between lo hi t ≡ false
  between_behind a = rw (le-ltb t hi a) (both_false (leb lo t))

  -- what counts from lo up to hi
  pub counts_in : (x : ℕ) → lo ≤ t → t < hi → only (between lo hi t) x ≡ x
  counts_in x a b = rw (between_yes a b)

  pub counts_before : (x : ℕ) → t < lo → only (between lo hi t) x ≡ 0
  counts_before x a = rw (between_before a)

  pub counts_behind : (x : ℕ) → hi ≤ t → only (between lo hi t) x ≡ 0
  counts_behind x a = rw (between_behind a)

-- a stretch with nothing in it, and one cut in two
pub counts_empty : (lo hi t x : ℕ) → hi ≤ lo → only (between lo hi t) x ≡ 0
counts_empty lo hi t x h = elim (dec_le hi t) [ yes d ↦ counts_behind lo hi t x d | no d ↦ counts_before lo hi t x (omega arith) ]

pub counts_cut : (lo mid hi t x : ℕ) → lo ≤ mid → mid ≤ hi → only (between lo mid t) x + only (between mid hi t) x ≡ only (between lo hi t) x
counts_cut lo mid hi t x a b =
    elim (dec_le lo t) [
      | no d ↦ omega (arith, counts_before lo mid t x (omega arith), counts_before mid hi t x (omega arith), counts_before lo hi t x (omega arith))
      | yes d ↦
          elim (dec_le hi t) [
            | yes e ↦ omega (arith, counts_behind lo mid t x (omega arith), counts_behind mid hi t x e, counts_behind lo hi t x e)
            | no e ↦
                elim (dec_le mid t) [
                  | yes c ↦ omega (arith, counts_behind lo mid t x c, counts_in mid hi t x c (omega arith), counts_in lo hi t x d (omega arith))
                  | no c ↦ omega (arith, counts_in lo mid t x d (omega arith), counts_before mid hi t x (omega arith), counts_in lo hi t x d (omega arith))
                ]
          ]
    ]

pub only_le : (a b : Bool) (x : ℕ) → (a ≡ true → b ≡ true) → only a x ≤ only b x
only_le true b x h = rw (h refl) (omega arith)
only_le false b x h = omega arith

pub only_less : (a b : Bool) (x : ℕ) → only a x < only b x → (a ≡ false) × (b ≡ true)
only_less true true x h = absurd (omega arith)
only_less true false x h = absurd (omega arith)
only_less false true x h = (refl, refl)
only_less false false x h = absurd (omega arith)

pub by_contra : (a b : ℕ) → (b < a → ⊥) → a ≤ b
by_contra a b h = elim (dec_le a b) [ yes k ↦ k | no k ↦ absurd (h (omega arith)) ]

-- a number with two names for a test that matters only where x is not 0
pub only_cong : (a b : Bool) (x : ℕ) → (a ≡ true → b ≡ true) → (b ≡ true → (x ≡ 0 → ⊥) → a ≡ true) → only a x ≡ only b x
only_cong true b x f g = rw (f refl)
only_cong false true x f g = elim (ℕ_discrete x 0) [ yes e ↦ sym e | no e ↦ let q = g refl e in cc ]
only_cong false false x f g = refl

pub every_at : (f : ℕ → Bool) (m : ℕ) → every f m ≡ true → (k : ℕ) → k < m → f k ≡ true
unfolding every
every_at f zero h k b = absurd (omega arith)
every_at f (suc m) h k b = go (both_true (f m) (every f m) h) (λ q. every_at f m (both_true (f m) (every f m) h).1 k q)
  where
    go : (f m ≡ true) × (every f m ≡ true) → (k < m → f k ≡ true) → f k ≡ true
    go q r = elim (ℕ_discrete k m) [ yes e ↦ rw e q.0 | no e ↦ r (omega arith) ]

-- as a loop makes it, from 0 up
pub every_none : (f : ℕ → Bool) → every f 0 ≡ true
unfolding every
every_none f = refl

pub every_more : (f : ℕ → Bool) (k : ℕ) → every f k ≡ true → f k ≡ true → every f (k + 1) ≡ true
unfolding every
every_more f k h q = rw (add-one, q, h)

pub every_end : (f : ℕ → Bool) (m k : ℕ) → k ≤ m → m ≤ k → every f k ≡ true → every f m ≡ true
every_end f m k a b h = let e : m ≡ k = omega arith in rw e h

-- where it fails below m
pub every_fault : (f : ℕ → Bool) (m k : ℕ) → k < m → f k ≡ false → every f m ≡ false
every_fault f m k b h = go (every f m) refl
  where
    go : (x : Bool) → every f m ≡ x → every f m ≡ false
    go false e = e
    go true e = let q = every_at f m e k b in cc

pub either_left : (a b : Bool) → a ≡ true → either a b ≡ true
either_left a b h = rw h

pub either_right : (a b : Bool) → b ≡ true → either a b ≡ true
either_right true b h = refl
either_right false b h = h

pub either_true : (a b : Bool) → either a b ≡ true → (a ≡ true) ⊎ (b ≡ true)
either_true true b h = inl h
either_true false b h = inr h

-- one test behind the other
pub only_both : (a b : Bool) (x : ℕ) → only (both a b) x ≡ only a (only b x)
only_both true b x = refl
only_both false b x = refl
