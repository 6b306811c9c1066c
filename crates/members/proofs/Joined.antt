-- The members of other words put into a set, over the number of words: there are as many words as before, each is joined with the other word at its place,
-- and the members are those of both, as far as the words go; and how a loop joins them, one word after the other.
use Prim.Native.Nat.{ℕ, zero, suc, ◌+◌, ◌/◌, ◌%◌, ◌≤◌, ◌<◌}
use mathlib.Core.Path.{◌≡◌, refl, ap, ◌∙◌}
use mathlib.Core.Bool.{Bool}
use mathlib.Core.List.{List, [], ◌∷◌}
use native.Mathlib.Omega.{arith}
use native.Mathlib.Decide.{dec_lt}
use native.Mathlib.Numerals.{add-one}
use lib.Bits.{bit_or, or_lt, or_zero_r}
use lib.Dec.{eqb}
use lib.ListN.{length, set, take}
use lib.Pow.{pow_pos}
use lib.Seq.{take_all}
use Rattle.lists.specs.Lists.{◌!◌}
use Rattle.lists.specs.Tests.{either}
use Rattle.lists.proofs.Lists.{beyond}
use Rattle.members.specs.Members.{has, places, setOf, joined, AreWords}
use Rattle.members.proofs.Bits.{bit_of, bit_lt, or_bits}
use Rattle.members.proofs.Sets.{set_of_length, set_of_words, has_set_of, set_of_unique}

-- ---- the words

pub joined_length : (ws vs : List ℕ) → length (joined ws vs) ≡ length ws
unfolding joined
joined_length [] vs = refl
joined_length (x ∷ ws) [] = refl
joined_length (x ∷ ws) (y ∷ vs) = ap suc (joined_length ws vs)

-- a word where the others have ended is joined with 0
pub joined_at : (ws vs : List ℕ) (q : ℕ) → q < length ws → joined ws vs ! q ≡ bit_or (ws ! q) (vs ! q)
unfolding joined
joined_at [] vs q h = absurd (omega arith)
joined_at (x ∷ ws) [] q h = rw (or_zero_r ((x ∷ ws) ! q))
joined_at (x ∷ ws) (y ∷ vs) zero h = refl
joined_at (x ∷ ws) (y ∷ vs) (suc q) h = joined_at ws vs q (omega arith)

pub joined_beyond : (ws vs : List ℕ) (q : ℕ) → length ws ≤ q → joined ws vs ! q ≡ 0
joined_beyond ws vs q h = beyond (joined ws vs) q (omega (arith, joined_length ws vs))

pub joined_words : (ws vs : List ℕ) → AreWords ws → AreWords vs → AreWords (joined ws vs)
joined_words ws vs f g q =
    elim (dec_lt q (length ws)) [
      | yes b ↦ rw (joined_at ws vs q b) (or_lt 32 (ws ! q) (vs ! q) (f q) (g q))
      | no b ↦ rw (joined_beyond ws vs q (omega arith)) (pow_pos 32)
    ]

-- ---- the members

-- two bits joined, as a test
or_test : (a b : ℕ) → a < 2 → b < 2 → eqb (bit_or a b) 1 ≡ either (eqb a 1) (eqb b 1)
or_test zero zero h k = refl
or_test zero (suc zero) h k = refl
or_test (suc zero) zero h k = refl
or_test (suc zero) (suc zero) h k = refl
or_test (suc (suc a)) b h k = absurd (omega arith)
or_test zero (suc (suc b)) h k = absurd (omega arith)
or_test (suc zero) (suc (suc b)) h k = absurd (omega arith)

-- the members are those of both
pub joined_has : (ws vs : List ℕ) (k : ℕ) → k < places ws → has (joined ws vs) k ≡ either (has ws k) (has vs k)
unfolding has
joined_has ws vs k b =
    let x = ws ! (k / 32) in
    let y = vs ! (k / 32) in
    let i = k % 32 in
    rw (joined_at ws vs (k / 32) (omega arith), or_bits x y i) (or_test (bit_of x i) (bit_of y i) (bit_lt x i) (bit_lt y i))

-- a set joined with words is the set of the members of both
pub joined_set : (w : ℕ) (f : ℕ → Bool) (vs : List ℕ) → AreWords vs → joined (setOf w f) vs ≡ setOf w (λ k. either (f k) (has vs k))
joined_set w f vs small =
    let s = setOf w f in
    set_of_unique w (λ k. either (f k) (has vs k)) (joined s vs) (joined_length s vs ∙ set_of_length w f) (joined_words s vs (set_of_words w f) small)
    (λ k b. joined_has s vs k (omega (arith, set_of_length w f)) ∙ ap (λ (t : Bool). either t (has vs k)) (has_set_of w f k b))

-- ---- as a loop joins them: the first i of the others are put in

joined-none : (ws : List ℕ) → joined ws [] ≡ ws
unfolding joined
joined-none [] = refl
joined-none (x ∷ ws) = refl

pub joined_start : (ws vs : List ℕ) → joined ws (take 0 vs) ≡ ws
joined_start ws vs = joined-none ws

-- the next one is put in; then the same with the number that the loop has
next : (ws vs : List ℕ) (i : ℕ) → i < length ws → i < length vs
    → set (joined ws (take i vs)) i (bit_or (joined ws (take i vs) ! i) (vs ! i)) ≡ joined ws (take (suc i) vs)
unfolding joined
next [] vs i h k = absurd (omega arith)
next (x ∷ ws) [] i h k = absurd (omega arith)
next (x ∷ ws) (y ∷ vs) zero h k = rw (joined-none ws)
next (x ∷ ws) (y ∷ vs) (suc i) h k = ap (λ (zs : List ℕ). bit_or x y ∷ zs) (next ws vs i (omega arith) (omega arith))

pub joined_next : (ws vs : List ℕ) (i : ℕ) → i < length ws → i < length vs
    → set (joined ws (take i vs)) i (bit_or (joined ws (take i vs) ! i) (vs ! i)) ≡ joined ws (take (i + 1) vs)
joined_next ws vs i h k = rw add-one (next ws vs i h k)

-- at the end of the words, or of the others, all that can be put in are
pub joined_full : (ws vs : List ℕ) (i : ℕ) → length ws ≤ i → joined ws (take i vs) ≡ joined ws vs
unfolding joined
joined_full [] vs i h = refl
joined_full (x ∷ ws) vs zero h = absurd (omega arith)
joined_full (x ∷ ws) [] (suc i) h = refl
joined_full (x ∷ ws) (y ∷ vs) (suc i) h = ap (λ (zs : List ℕ). bit_or x y ∷ zs) (joined_full ws vs i (omega arith))

pub joined_all : (ws vs : List ℕ) (i : ℕ) → length vs ≤ i → joined ws (take i vs) ≡ joined ws vs
joined_all ws vs i h = rw (take_all i vs h)
