-- A writer that looks at the numbers one after the other and puts each member in: its words are the set of the members below the number reached.
use Prim.Native.Nat.{ℕ, suc, ◌*◌, ◌/◌, ◌≤◌, ◌<◌, zero-le}
use mathlib.Core.Path.{◌≡◌, sym, ◌∙◌}
use mathlib.Core.Bool.{Bool, true, false}
use native.Mathlib.Omega.{arith}
use native.Mathlib.Decide.{dec_lt, ℕ_discrete}
use native.Mathlib.Nat.{zero-div}
use borrow.Author.Tests.{lt-ltb, le-ltb}
use lib.Dec.{ltb}
use lib.ListN.{replicate, length-replicate}
use lib.Pow.{pow_pos}
use Rattle.lists.proofs.Lists.{zeros_at}
use Rattle.lists.specs.Tests.{both}
use Rattle.members.specs.Members.{has, setOf, inserted, AreWords}
use Rattle.members.proofs.Sets.{set_of_length, set_of_words, has_set_of, set_of_unique, set_of_cong}
use Rattle.members.proofs.Inserted.{inserted_length, inserted_words, inserted_same, inserted_other}

-- f's members below k
abbrev pub below : (ℕ → Bool) → ℕ → ℕ → Bool
below f k i = both (ltb i k) (f i)

pub below_past : (f : ℕ → Bool) (k i : ℕ) → k ≤ i → below f k i ≡ false
below_past f k i h = rw (le-ltb i k h)

pub below_in : (f : ℕ → Bool) (k i : ℕ) → i < k → below f k i ≡ f i
below_in f k i h = rw (lt-ltb i k h)

-- the step from k to k + 1 changes nothing but k
below_same : (f : ℕ → Bool) (k i : ℕ) → (i ≡ k → ⊥) → below f (suc k) i ≡ below f k i
below_same f k i h =
    elim (dec_lt i k) [
      | yes b ↦ below_in f (suc k) i (omega arith) ∙ sym (below_in f k i b)
      | no b ↦ below_past f (suc k) i (omega arith) ∙ sym (below_past f k i (omega arith))
    ]

-- ---- words that are all 0 have no member

pub zeros_words : (w : ℕ) → AreWords (replicate w 0)
zeros_words w q = rw (zeros_at w q) (pow_pos 32)

pub zeros_has : (w k : ℕ) → has (replicate w 0) k ≡ false
unfolding has
zeros_has w k = rw (zeros_at w (k / 32), zero-div)

-- ---- the writer's words, in w words

module _ (w : ℕ) (f : ℕ → Bool) where
  -- at the start they are all 0
  pub below_none : setOf w (below f 0) ≡ replicate w 0
  below_none = sym (set_of_unique w (below f 0) (replicate w 0) (length-replicate w 0) (zeros_words w) (λ k b. zeros_has w k ∙ sym (below_past f 0 k zero-le)))

  -- a member is put in
  pub below_put : (k : ℕ) → k < 32 * w → f k ≡ true → inserted (setOf w (below f k)) k ≡ setOf w (below f (suc k))
  below_put k h t =
      let s = setOf w (below f k) in
      set_of_unique w (below f (suc k)) (inserted s k) (inserted_length s k ∙ set_of_length w (below f k)) (inserted_words s k (set_of_words w (below f k))) at
    where
      at : (i : ℕ) → i < 32 * w → has (inserted (setOf w (below f k)) k) i ≡ below f (suc k) i
      at i b =
          elim (ℕ_discrete i k) [
            | yes e ↦ rw e (inserted_same (setOf w (below f k)) k (omega (arith, set_of_length w (below f k))) ∙ sym (below_in f (suc k) k (omega arith) ∙ t))
            | no ne ↦ inserted_other (setOf w (below f k)) k i ne ∙ has_set_of w (below f k) i b ∙ sym (below_same f k i ne)
          ]

  -- any other number is passed over
  pub below_skip : (k : ℕ) → f k ≡ false → setOf w (below f k) ≡ setOf w (below f (suc k))
  below_skip k t = set_of_cong w (below f k) (below f (suc k)) (λ i b. skip i)
    where
      skip : (i : ℕ) → below f k i ≡ below f (suc k) i
      skip i = elim (ℕ_discrete i k) [ yes e ↦ rw (e, below_past f k k (omega arith), below_in f (suc k) k (omega arith), t) | no ne ↦ sym (below_same f k i ne) ]

  -- at the end they are the set of f's members
  pub below_end : (n : ℕ) → ((i : ℕ) → n ≤ i → i < 32 * w → f i ≡ false) → setOf w (below f n) ≡ setOf w f
  below_end n h =
      set_of_cong w (below f n) f (λ i b. elim (dec_lt i n) [ yes c ↦ below_in f n i c | no c ↦ below_past f n i (omega arith) ∙ sym (h i (omega arith) b) ])
