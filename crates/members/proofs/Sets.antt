-- Member sets, over the number of words: the set of given members and what it has, that the members make the set, and how many ones there are.
use Prim.Native.Nat.{ℕ, zero, suc, ◌+◌, ◌*◌, ◌/◌, ◌%◌, ◌^◌, ◌≤◌, ◌<◌}
use mathlib.Core.Path.{◌≡◌, refl, sym, ap, ◌∙◌}
use mathlib.Core.Bool.{Bool, true, false, not}
use mathlib.Core.List.{List, [], ◌∷◌}
use native.Mathlib.Omega.{arith}
use native.Mathlib.Decide.{dec_lt}
use native.Mathlib.Nat.{zero-div}
use native.Mathlib.Numerals.{add-one}
use lib.Bits.{bit_and}
use lib.Count.{ones_in, ones}
use lib.Dec.{eqb}
use lib.ListN.{length, drop, drop_of_length-le, get_or-eq_default}
use lib.Pow.{pow_pos}
use lib.Seq.{drop-cons}
use Rattle.lists.specs.Lists.{◌!◌}
use Rattle.lists.specs.Tests.{only}
use Rattle.lists.specs.Sums.{total}
use Rattle.lists.proofs.Lists.{same_list}
use Rattle.lists.proofs.Sums.{total-zero, total_cong}
use Rattle.lists.proofs.Stretches.{total_join}
use Rattle.members.specs.Members.{has, ones_of, word, words, setOf, AreWords}
use Rattle.members.proofs.Bits.{bit_of, bit_lt, mask_test, ones_bits, ones_all, word_lt, word_bit, word_unique}

-- ---- a bit as a test

only_test : (c : Bool) → eqb (only c 1) 1 ≡ c
only_test true = refl
only_test false = refl

test_only : (b : ℕ) → b < 2 → only (eqb b 1) 1 ≡ b
test_only zero h = refl
test_only (suc zero) h = refl
test_only (suc (suc b)) h = absurd (omega arith)

-- ---- what a set has

-- there is no member beyond the words
pub has_past : (ws : List ℕ) (k : ℕ) → 32 * length ws ≤ k → has ws k ≡ false
unfolding has
has_past ws k h = rw (get_or-eq_default ws 0 {n = k / 32} (omega arith), zero-div)

-- a member lies within the words
pub has_within : (ws : List ℕ) (k : ℕ) → has ws k ≡ true → k < 32 * length ws
has_within ws k h =
    elim (dec_lt k (32 * length ws)) [
      | yes b ↦ b
      | no b ↦ let z : ◌≡◌ {A = ℕ} 0 1 = cc (has_past ws k (omega arith)) in omega arith
    ]

-- a member is tested by the mask of its bit
pub has_mask : (ws : List ℕ) (k : ℕ) → not (eqb (bit_and (ws ! (k / 32)) (2 ^ (k % 32))) 0) ≡ has ws k
unfolding has
has_mask ws k = mask_test (ws ! (k / 32)) (k % 32)

-- word q of the set is the word of the 32 members from 32 q on
words_at : (f : ℕ → Bool) (w b q : ℕ) → q < w → words f b w ! q ≡ word f (b + q * 32) 32
unfolding words
words_at f zero b q h = absurd (omega arith)
words_at f (suc w) b zero h = let e : b + 0 * 32 ≡ b = omega arith in rw e
words_at f (suc w) b (suc q) h =
    let e : b + 32 + q * 32 ≡ b + suc q * 32 = omega arith in
    words_at f w (b + 32) q (omega arith) ∙ ap (λ (k : ℕ). word f k 32) e

words_length : (f : ℕ → Bool) (w b : ℕ) → length (words f b w) ≡ w
unfolding words
words_length f zero b = refl
words_length f (suc w) b = ap suc (words_length f w (b + 32))

pub set_of_length : (w : ℕ) (f : ℕ → Bool) → length (setOf w f) ≡ w
unfolding setOf
set_of_length w f = words_length f w 0

pub set_of_at : (w : ℕ) (f : ℕ → Bool) (q : ℕ) → q < w → setOf w f ! q ≡ word f (q * 32) 32
unfolding setOf
set_of_at w f q h = let e : 0 + q * 32 ≡ q * 32 = omega arith in words_at f w 0 q h ∙ ap (λ (k : ℕ). word f k 32) e

pub set_of_words : (w : ℕ) (f : ℕ → Bool) → AreWords (setOf w f)
set_of_words w f q =
    elim (dec_lt q w) [
      | yes h ↦ rw (set_of_at w f q h) (word_lt f (q * 32) 32)
      | no h ↦ rw (get_or-eq_default (setOf w f) 0 {n = q} (omega (arith, set_of_length w f))) (pow_pos 32)
    ]

-- the members are those that were given
pub has_set_of : (w : ℕ) (f : ℕ → Bool) (k : ℕ) → k < 32 * w → has (setOf w f) k ≡ f k
unfolding has
has_set_of w f k h =
    let e : k / 32 * 32 + k % 32 ≡ k = omega arith in
    rw (set_of_at w f (k / 32) (omega arith), word_bit f (k / 32 * 32) 32 (k % 32) (omega arith), e) (only_test (f k))

-- whatever the words can hold, a member of theirs was given
pub has_given : (w : ℕ) (f : ℕ → Bool) (k : ℕ) → has (setOf w f) k ≡ true → f k ≡ true
has_given w f k h = sym (has_set_of w f k (omega (arith, has_within (setOf w f) k h, set_of_length w f))) ∙ h

-- fewer given, fewer in the words
pub has_sub : (w : ℕ) (f g : ℕ → Bool) → ((k : ℕ) → f k ≡ true → g k ≡ true) → (k : ℕ) → has (setOf w f) k ≡ true → has (setOf w g) k ≡ true
has_sub w f g h k q = has_set_of w g k (omega (arith, has_within (setOf w f) k q, set_of_length w f)) ∙ h k (has_given w f k q)

-- ---- the members make the set

-- bit i of word q, by the test
bit_has : (ws : List ℕ) (q i : ℕ) → i < 32 → bit_of (ws ! q) i ≡ only (has ws (q * 32 + i)) 1
unfolding has
bit_has ws q i h =
    let d : (q * 32 + i) / 32 ≡ q = omega arith in
    let m : (q * 32 + i) % 32 ≡ i = omega arith in
    rw (d, m) (sym (test_only (bit_of (ws ! q) i) (bit_lt (ws ! q) i)))

-- words with the given members are the set of them
pub set_of_unique : (w : ℕ) (f : ℕ → Bool) (ws : List ℕ) → length ws ≡ w → AreWords ws → ((k : ℕ) → k < 32 * w → has ws k ≡ f k) → ws ≡ setOf w f
set_of_unique w f ws long small h = same_list w ws (setOf w f) long (set_of_length w f) at
  where
    at : (q : ℕ) → q < w → ws ! q ≡ setOf w f ! q
    at q b =
        word_unique f (q * 32) 32 (ws ! q) (small q) (λ i c. bit_has ws q i c ∙ ap (λ (t : Bool). only t 1) (h (q * 32 + i) (omega arith)))
        ∙ sym (set_of_at w f q b)

pub set_of_cong : (w : ℕ) (f g : ℕ → Bool) → ((k : ℕ) → k < 32 * w → f k ≡ g k) → setOf w f ≡ setOf w g
set_of_cong w f g h = set_of_unique w g (setOf w f) (set_of_length w f) (set_of_words w f) (λ k b. has_set_of w f k b ∙ h k b)

-- ---- the number of ones

has_first : (x : ℕ) (ws : List ℕ) (i : ℕ) → i < 32 → bit_of x i ≡ only (has (x ∷ ws) i) 1
has_first x ws i h = let e : 0 * 32 + i ≡ i = omega arith in rw e at (bit_has (x ∷ ws) 0 i h)

has_later : (x : ℕ) (ws : List ℕ) (k : ℕ) → has (x ∷ ws) (32 + k) ≡ has ws k
unfolding has
has_later x ws k =
    let d : (32 + k) / 32 ≡ suc (k / 32) = omega arith in
    let m : (32 + k) % 32 ≡ k % 32 = omega arith in
    rw (d, m)

pub ones_none : ones_of [] ≡ 0
unfolding ones_of
ones_none = refl

pub ones_cons : (x : ℕ) (ws : List ℕ) → ones_of (x ∷ ws) ≡ ones_in 32 x + ones_of ws
unfolding ones_of
ones_cons x ws = refl

-- the ones are as many as the members
pub ones_members : (ws : List ℕ) → ones_of ws ≡ total (λ k. only (has ws k) 1) (32 * length ws)
ones_members [] = ones_none ∙ sym (total-zero (λ k. only (has [] k) 1))
ones_members (x ∷ ws) =
    let n = 32 * length ws in
    let in_all : ℕ → ℕ = λ k. only (has (x ∷ ws) k) 1 in
    let in_rest : ℕ → ℕ = λ k. only (has ws k) 1 in
    let e : 32 * suc (length ws) ≡ 32 + n = omega arith in
    omega (
      arith,
      ap (total in_all) e,
      total_join in_all 32 n,
      ones_cons x ws,
      ones_bits 32 x,
      total_cong (bit_of x) in_all 32 (has_first x ws),
      ones_members ws,
      total_cong (λ k. in_all (32 + k)) in_rest n (λ k b. ap (λ (t : Bool). only t 1) (has_later x ws k)),
    )

-- as a loop counts them: the ones of word i, and those of the words after it
pub ones_drop : (ws : List ℕ) (i : ℕ) → i < length ws → ws ! i < 2 ^ 32 → ones_of (drop i ws) ≡ ones (ws ! i) + ones_of (drop (i + 1) ws)
ones_drop ws i h b = rw (add-one, drop-cons ws i 0 h, ones_cons, ones_all 32 (ws ! i) b)

pub ones_end : (ws : List ℕ) (i : ℕ) → length ws ≤ i → ones_of (drop i ws) ≡ 0
ones_end ws i h = rw (drop_of_length-le ws h) ones_none
