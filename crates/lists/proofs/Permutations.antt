-- A renumbering changes no sum, and can be undone.
use Prim.Native.Nat.{ℕ, zero, suc, ◌≤◌, ◌<◌}
use native.Mathlib.Omega.{arith}
use native.Mathlib.Decide.{ℕ_discrete}
use mathlib.Core.Path.{◌≡◌, ap}
use mathlib.Core.List.{List}
use lib.Dec.{eqb}
use borrow.Author.Tests.{eq-eqb, ne_eqb}
use Rattle.lists.specs.Sums.{total}
use Rattle.lists.specs.Permutations.{Permutes, SameList}
use Rattle.lists.proofs.Sums.{total_cong, omitting, omitting_other, total_omitting}

-- distinct places below n add up to at most all of them
total_some : (n : ℕ) (π : ℕ → ℕ) (m : ℕ) → ((k : ℕ) → k < m → π k < n) → ((k i : ℕ) → k < i → i < m → π k ≡ π i → ⊥)
    → (f : ℕ → ℕ) → total (λ k. f (π k)) m ≤ total f n
unfolding total
total_some n π zero into apart f = omega arith
total_some n π (suc m) into apart f =
    omega (
      arith,
      total_some n π m (λ k b. into k (omega arith)) (λ k i b c. apart k i b (omega arith)) (omitting f (π m)),
      total_cong (λ k. omitting f (π m) (π k)) (λ k. f (π k)) m (λ k b. omitting_other f (π m) (π k) (apart k m b (omega arith))),
      total_omitting f (π m) n (into m (omega arith)),
    )

pub turned : (n : ℕ) (π σ : ℕ → ℕ) → Permutes n π σ → Permutes n σ π
turned n π σ h = record { into = h.onto; onto = h.into; there = h.back; back = h.there }

pub turn_apart : (n : ℕ) (π σ : ℕ → ℕ) → Permutes n π σ → (k i : ℕ) → k < n → i < n → π k ≡ π i → k ≡ i
turn_apart n π σ h k i b c e = cc (h.there k b, h.there i c)

half_turn : (n : ℕ) (π σ : ℕ → ℕ) → Permutes n π σ → (f : ℕ → ℕ) → total (λ k. f (π k)) n ≤ total f n
half_turn n π σ h f = total_some n π n h.into (λ k i b c e. omega (arith, turn_apart n π σ h k i (omega arith) c e)) f

pub total_turn : (n : ℕ) (π σ : ℕ → ℕ) → Permutes n π σ → (f : ℕ → ℕ) → total (λ k. f (π k)) n ≡ total f n
total_turn n π σ h f =
    omega (
      arith,
      half_turn n π σ h f,
      half_turn n σ π (turned n π σ h) (λ k. f (π k)),
      total_cong (λ k. f (π (σ k))) f n (λ k b. ap f (h.back k b)),
    )

pub eqb_turn : (n : ℕ) (π σ : ℕ → ℕ) → Permutes n π σ → (k j : ℕ) → k < n → j < n → eqb (π k) (π j) ≡ eqb k j
eqb_turn n π σ h k j b c =
    elim (ℕ_discrete k j) [
      | yes e ↦ rw (eq-eqb (π k) (π j) (ap π e), eq-eqb k j e)
      | no e ↦ rw (ne_eqb (π k) (π j) (λ q. e (turn_apart n π σ h k j b c q)), ne_eqb k j e)
    ]

pub list_back : (n : ℕ) (π σ : ℕ → ℕ) → Permutes n π σ → (xs ys : List ℕ) → SameList n π xs ys → SameList n σ ys xs
list_back n π σ h xs ys f k b = cc (f (σ k) (h.onto k b), h.back k b)
