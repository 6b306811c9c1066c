-- Bits of one word: the mask of a bit, a bit after another is set, the ones as a sum over the bits, and that the bits make the word.
use Prim.Native.Nat.{ℕ, zero, suc, ◌+◌, ◌-◌, ◌*◌, ◌/◌, ◌%◌, ◌^◌, ◌≤◌, ◌<◌}
use mathlib.Core.Path.{◌≡◌, refl, sym, ap, ◌∙◌}
use mathlib.Core.Bool.{Bool, true, false, not}
use native.Mathlib.Omega.{arith}
use native.Mathlib.Decide.{dec_lt}
use native.Mathlib.Nat.{one-mul, zero-mul, add-zero, mod-eq_of_lt, mod-lt, div_self, div-eq_of_lt, mul-mod_left, pow-suc}
use borrow.Author.Tests.{ne_eqb}
use lib.Dec.{eqb, lit<}
use lib.Pow.{pow_pos, pow-lt, pow-add, high_ones, shl-shr, shr-shr}
use lib.Bits.{bit_and, bit_or, and_high, or_shr, or_mod, or_zero_r}
use lib.Count.{ones_in, ones, ones_step}
use Rattle.lists.specs.Tests.{only}
use Rattle.lists.specs.Sums.{total}
use Rattle.lists.proofs.Sums.{total-zero, total_cong}
use Rattle.lists.proofs.Stretches.{total_first}
use Rattle.members.specs.Members.{word}

-- bit i of a word, 0 or 1
abbrev pub bit_of : ℕ → ℕ → ℕ
bit_of x i = x / 2 ^ i % 2

pub bit_lt : (x i : ℕ) → bit_of x i < 2
bit_lt x i = mod-lt (x / 2 ^ i) (lit< tt)

-- the next bit is the same bit of the half
pub bit_half : (x i : ℕ) → bit_of x (suc i) ≡ bit_of (x / 2) i
bit_half x i =
    let e : 1 + i ≡ suc i = omega arith in
    ap (λ (k : ℕ). x / 2 ^ k % 2) (sym e) ∙ ap (λ (y : ℕ). y % 2) (sym (shr-shr x 1 i))

-- ---- the mask of a bit

-- `1u32 << i`
pub mask_is : (i : ℕ) → i < 32 → 1 * 2 ^ i % 4294967296 ≡ 2 ^ i
mask_is i h = rw one-mul (mod-eq_of_lt (pow-lt h))

and_bit : (x i : ℕ) → bit_and x (2 ^ i) ≡ bit_of x i * 2 ^ i
and_bit x i = rw (high_ones 1 i, one-mul) at (and_high x 1 i)

not-zero : (b p : ℕ) → b < 2 → zero < p → not (eqb (b * p) 0) ≡ eqb b 1
not-zero zero p h q = rw zero-mul
not-zero (suc zero) p h q = rw (one-mul, ne_eqb p 0 (λ e. omega arith))
not-zero (suc (suc b)) p h q = absurd (omega arith)

-- the test of a bit by its mask
pub mask_test : (x i : ℕ) → not (eqb (bit_and x (2 ^ i)) 0) ≡ eqb (bit_of x i) 1
mask_test x i = rw (and_bit x i) (not-zero (bit_of x i) (2 ^ i) (bit_lt x i) (pow_pos i))

-- ---- after a bit is set

-- each bit of two words joined
pub or_bits : (x y j : ℕ) → bit_of (bit_or x y) j ≡ bit_or (bit_of x j) (bit_of y j)
or_bits x y j = ap (λ (z : ℕ). z % 2) (or_shr x y j) ∙ or_mod (x / 2 ^ j) (y / 2 ^ j) 1

pow_bit_same : (i : ℕ) → bit_of (2 ^ i) i ≡ 1
pow_bit_same i = rw (div_self (pow_pos i))

pow_bit_above : (j d : ℕ) → bit_of (2 ^ (suc d + j)) j ≡ 0
pow_bit_above j d = rw (pow-add 2 (suc d) j, shl-shr (2 ^ suc d) j, pow-suc 2 d) (mul-mod_left (2 ^ d) 2)

pow_bit_other : (i j : ℕ) → (j ≡ i → ⊥) → bit_of (2 ^ i) j ≡ 0
pow_bit_other i j ne = go (dec_lt i j)
  where
    go : Dec (i < j) → bit_of (2 ^ i) j ≡ 0
    go (yes h) = rw (div-eq_of_lt (pow-lt h))
    go (no h) = let e : suc (i - j - 1) + j ≡ i = omega arith in rw e at (pow_bit_above j (i - j - 1))

or_one : (b : ℕ) → b < 2 → bit_or b 1 ≡ 1
or_one zero h = refl
or_one (suc zero) h = refl
or_one (suc (suc b)) h = absurd (omega arith)

pub or_same : (x i : ℕ) → bit_of (bit_or x (2 ^ i)) i ≡ 1
or_same x i = rw (or_bits x (2 ^ i) i, pow_bit_same i) (or_one (bit_of x i) (bit_lt x i))

pub or_other : (x i j : ℕ) → (j ≡ i → ⊥) → bit_of (bit_or x (2 ^ i)) j ≡ bit_of x j
or_other x i j ne = rw (or_bits x (2 ^ i) j, pow_bit_other i j ne, or_zero_r)

-- ---- the ones of a word

pub ones_bits : (m x : ℕ) → ones_in m x ≡ total (λ i. bit_of x i) m
unfolding ones_in
ones_bits zero x = sym (total-zero (λ i. bit_of x i))
ones_bits (suc m) x =
    omega (arith, ones_bits m (x / 2), total_first (λ i. bit_of x i) m, total_cong (λ i. bit_of x (suc i)) (λ i. bit_of (x / 2) i) m (λ i b. bit_half x i))

-- `u32::count_ones` gives `ones`
pub ones_all : (m x : ℕ) → x < 2 ^ m → ones_in m x ≡ ones x
unfolding ones_in ones
ones_all zero x h = let e : x ≡ 0 = omega arith in rw e
ones_all (suc m) x h = rw (ones_step x) (ap (λ (y : ℕ). x % 2 + y) (ones_all m (x / 2) (omega arith)))

-- ---- the word of given bits

bit_le : (c : Bool) → only c 1 ≤ 1
bit_le true = omega arith
bit_le false = omega arith

pub word_lt : (f : ℕ → Bool) (b m : ℕ) → word f b m < 2 ^ m
unfolding word
word_lt f b zero = omega arith
word_lt f b (suc m) = omega (arith, word_lt f (suc b) m, bit_le (f b))

-- bit i says whether b + i is a member
pub word_bit : (f : ℕ → Bool) (b m i : ℕ) → i < m → bit_of (word f b m) i ≡ only (f (b + i)) 1
unfolding word
word_bit f b zero i h = absurd (omega arith)
word_bit f b (suc m) zero h = rw (add-zero b) (omega (arith, bit_le (f b)))
word_bit f b (suc m) (suc i) h =
    let x : ℕ = word f (suc b) m * 2 + only (f b) 1 in
    let half : x / 2 ≡ word f (suc b) m = omega (arith, bit_le (f b)) in
    let d : suc b + i ≡ b + suc i = omega arith in
    bit_half x i ∙ ap (λ (y : ℕ). bit_of y i) half ∙ word_bit f (suc b) m i (omega arith) ∙ ap (λ (k : ℕ). only (f k) 1) d

-- a number of m bits is the word of its bits
pub word_unique : (f : ℕ → Bool) (b m x : ℕ) → x < 2 ^ m → ((i : ℕ) → i < m → bit_of x i ≡ only (f (b + i)) 1) → x ≡ word f b m
unfolding word
word_unique f b zero x h bits = omega arith
word_unique f b (suc m) x h bits =
    let low : x / 1 % 2 ≡ only (f b) 1 = rw add-zero at (bits 0 (omega arith)) in
    omega (arith, low, word_unique f (suc b) m (x / 2) (omega arith) (λ i c. sym (bit_half x i) ∙ bits (suc i) (omega arith) ∙ ap (λ (k : ℕ). only (f k) 1) (omega arith)))
