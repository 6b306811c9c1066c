-- The numbers of a list at the places of a set: how many there are, where each stands, that each stands at a place of its own and each place is some
-- number's, and that what limits the list limits them.
use Prim.Native.Nat.{ℕ, zero, suc, ◌+◌, ◌≤◌, ◌<◌}
use native.Mathlib.Omega.{arith}
use native.Mathlib.Decide.{dec_lt, ℕ_discrete}
use mathlib.Core.Path.{◌≡◌, refl, sym, ◌∙◌}
use mathlib.Core.Bool.{Bool, true, false}
use mathlib.Core.List.{List, [], ◌∷◌}
use lib.ListN.{length}
use Rattle.lists.specs.Lists.{◌!◌}
use Rattle.lists.specs.Tests.{only}
use Rattle.lists.specs.Sums.{total}
use Rattle.lists.specs.Sets.{Set}
use Rattle.lists.specs.Picked.{keep, picked, picked_place}
use Rattle.lists.proofs.Sums.{total-zero, total_suc}
use Rattle.lists.proofs.Stretches.{total_first}

-- ---- places among the places of M

-- the places behind the first
abbrev behind : Set → Set
behind M k = M (suc k)

-- none before the first
place_zero : (M : Set) → picked_place M 0 ≡ 0
unfolding picked_place
place_zero M = refl

-- one place more counts if it is one of M
place_suc : (M : Set) (k : ℕ) → picked_place M (suc k) ≡ picked_place M k + only (M k) 1
unfolding picked_place
place_suc M k = refl

-- the first place, and the places behind it
place_first : (M : Set) (k : ℕ) → picked_place M (suc k) ≡ only (M 0) 1 + picked_place (behind M) k
unfolding picked_place
place_first M k = total_first (λ i. only (M i) 1) k

-- a place counts at most once
only_most : (c : Bool) → only c 1 ≤ 1
only_most true = omega arith
only_most false = omega arith

module _ (M : Set) where
  pub place_most : (n : ℕ) → picked_place M n ≤ n
  place_most zero = omega (arith, place_zero M)
  place_most (suc n) = omega (arith, place_suc M n, place_most n, only_most (M n))

  -- before a place behind k there are more of them than before k
  pub place_less : (k n : ℕ) → k < n → M k ≡ true → picked_place M k < picked_place M n
  place_less k zero b t = absurd (omega arith)
  place_less k (suc n) b t = go (λ c. place_less k n c t)
    where
      go : (k < n → picked_place M k < picked_place M n) → picked_place M k < picked_place M (suc n)
      go rest =
          elim (ℕ_discrete k n) [
            | yes e ↦ let z : only (M n) 1 ≡ 1 = rw (← e, t) in rw e (omega (arith, place_suc M n, z))
            | no e ↦ omega (arith, place_suc M n, rest (omega arith))
          ]

  -- two places of M stand apart
  pub place_apart : (i k : ℕ) → M i ≡ true → M k ≡ true → picked_place M i ≡ picked_place M k → i ≡ k
  place_apart i k s t e =
      elim (dec_lt i k) [
        | yes b ↦ absurd (omega (arith, place_less i k b s))
        | no b ↦ elim (dec_lt k i) [ yes c ↦ absurd (omega (arith, place_less k i c t)) | no c ↦ omega arith ]
      ]

  -- each place is that of some place of M
  pub place-back : (n q : ℕ) → q < picked_place M n → (k : ℕ) × (k < n) × (M k ≡ true) × (picked_place M k ≡ q)
  place-back zero q h = absurd (omega (arith, place_zero M))
  place-back (suc n) q h = go (M n) refl (λ b. place-back n q b)
    where
      go : (c : Bool) → M n ≡ c → (q < picked_place M n → (k : ℕ) × (k < n) × (M k ≡ true) × (picked_place M k ≡ q))
          → (k : ℕ) × (k < suc n) × (M k ≡ true) × (picked_place M k ≡ q)
      go true e rest =
          elim (dec_lt q (picked_place M n)) [
            | yes b ↦ let y = rest b in (y.0, omega arith, y.2, y.3)
            | no b ↦ let z : only (M n) 1 ≡ 1 = rw e in (n, omega arith, e, omega (arith, place_suc M n, z))
          ]
      go false e rest =
          let z : only (M n) 1 ≡ 0 = rw e in
          let y = rest (omega (arith, place_suc M n, z)) in
          (y.0, omega arith, y.2, y.3)

-- terms at the places among the places of M, one for each
pub place_total : (M : Set) (f g : ℕ → ℕ) (n : ℕ) → ((k : ℕ) → k < n → M k ≡ true → f (picked_place M k) ≡ g k)
    → total f (picked_place M n) ≡ total (λ k. only (M k) (g k)) n
place_total M f g zero h = rw (place_zero M) (total-zero f ∙ sym (total-zero (λ k. only (M k) (g k))))
place_total M f g (suc n) h = go (M n) refl (place_total M f g n (λ k b. h k (omega arith)))
  where
    one : total (λ k. only (M k) (g k)) (suc n) ≡ total (λ k. only (M k) (g k)) n + only (M n) (g n)
    one = total_suc (λ k. only (M k) (g k)) n

    go : (c : Bool) → M n ≡ c → total f (picked_place M n) ≡ total (λ k. only (M k) (g k)) n
        → total f (picked_place M (suc n)) ≡ total (λ k. only (M k) (g k)) (suc n)
    go true e rest =
        let z : only (M n) (g n) ≡ g n = rw e in
        let q : picked_place M (suc n) ≡ suc (picked_place M n) = omega (arith, place_suc M n, (let y : only (M n) 1 ≡ 1 = rw e in y)) in
        rw q (omega (arith, one, z, rest, total_suc f (picked_place M n), h n (omega arith) e))
    go false e rest =
        let z : only (M n) (g n) ≡ 0 = rw e in
        let q : picked_place M (suc n) ≡ picked_place M n = omega (arith, place_suc M n, (let y : only (M n) 1 ≡ 0 = rw e in y)) in
        rw q (omega (arith, one, z, rest))

-- ---- the numbers there

-- they are as many as the places of M below the list's end
pub picked_length : (M : Set) (xs : List ℕ) → length (picked M xs) ≡ picked_place M (length xs)
unfolding picked
picked_length M [] = sym (place_zero M)
picked_length M (x ∷ xs) = omega (arith, go (M 0), picked_length (behind M) xs, place_first M (length xs))
  where
    go : (c : Bool) → length (keep c x (picked (behind M) xs)) ≡ only c 1 + length (picked (behind M) xs)
    go true = omega arith
    go false = omega arith

-- each stands where its place is among the places of M
pub picked_at : (M : Set) (xs : List ℕ) (k : ℕ) → k < length xs → M k ≡ true → picked M xs ! picked_place M k ≡ xs ! k
unfolding picked
picked_at M [] k b t = absurd (omega arith)
picked_at M (x ∷ xs) zero b t = rw (place_zero M, t)
picked_at M (x ∷ xs) (suc k) b t = rw (place_first M k) (go (M 0) ∙ picked_at (behind M) xs k (omega arith) t)
  where
    go : (c : Bool) → keep c x (picked (behind M) xs) ! (only c 1 + picked_place (behind M) k) ≡ picked (behind M) xs ! picked_place (behind M) k
    go true = let e : 1 + picked_place (behind M) k ≡ suc (picked_place (behind M) k) = omega arith in rw e
    go false = let e : 0 + picked_place (behind M) k ≡ picked_place (behind M) k = omega arith in rw e

-- what is at most m everywhere in the list is so among them
pub picked_within : (M : Set) (xs : List ℕ) (m : ℕ) → ((k : ℕ) → xs ! k ≤ m) → (k : ℕ) → picked M xs ! k ≤ m
unfolding picked
picked_within M [] m h k = omega arith
picked_within M (x ∷ xs) m h k = go (M 0) k (picked_within (behind M) xs m (λ i. h (suc i)))
  where
    go : (c : Bool) (i : ℕ) → ((j : ℕ) → picked (behind M) xs ! j ≤ m) → keep c x (picked (behind M) xs) ! i ≤ m
    go true zero f = h 0
    go true (suc i) f = f i
    go false i f = f i
