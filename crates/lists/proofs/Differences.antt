-- Sums whose terms differ: at one place, or nowhere more and somewhere less.
use Prim.Native.Nat.{ℕ, zero, suc, ◌+◌, ◌≤◌, ◌<◌}
use native.Mathlib.Omega.{arith}
use native.Mathlib.Decide.{ℕ_discrete}
use mathlib.Core.Path.{◌≡◌, refl, sym, ◌∙◌}
use lib.Dec.{eqb}
use borrow.Author.Tests.{eq-eqb, ne_eqb}
use Rattle.lists.specs.Tests.{only}
use Rattle.lists.specs.Sums.{total}
use Rattle.lists.proofs.Sums.{total_le, total_cong, omitting, omitting_same, omitting_other, total_omitting}

pub total_zeros : (m : ℕ) → total (λ k. 0) m ≡ 0
unfolding total
total_zeros zero = refl
total_zeros (suc m) = omega (arith, total_zeros m)

pub total_ones : (m : ℕ) → total (λ k. 1) m ≡ m
unfolding total
total_ones zero = refl
total_ones (suc m) = omega (arith, total_ones m)

-- two sums that differ at one place
pub total_change : (f g : ℕ → ℕ) (a c m : ℕ) → ((k : ℕ) → k < m → (k ≡ a → ⊥) → g k ≡ f k) → g a ≡ f a + c → a < m → total g m ≡ total f m + c
total_change f g a c m h e b =
    omega (arith, e, total_omitting f a m b, total_omitting g a m b, total_cong (omitting g a) (omitting f a) m (λ k d. go k d (ℕ_discrete k a)))
  where
    go : (k : ℕ) → k < m → Dec (k ≡ a) → omitting g a k ≡ omitting f a k
    go k d (yes q) = rw q (omitting_same g a ∙ sym (omitting_same f a))
    go k d (no q) = omitting_other g a k q ∙ h k d q ∙ sym (omitting_other f a k q)

-- terms no greater, and one of them less
pub total_less : (f g : ℕ → ℕ) (m a : ℕ) → ((k : ℕ) → k < m → f k ≤ g k) → a < m → f a < g a → total f m < total g m
total_less f g m a h b s =
    let c = total_change f (λ k. f k + only (eqb k a) 1) a 1 m (λ k q d. rw (ne_eqb k a d) (omega arith)) (rw (eq-eqb a a refl)) b in
    let d = total_le (λ k. f k + only (eqb k a) 1) g m (λ k q. go k q (ℕ_discrete k a)) in
    omega arith
  where
    go : (k : ℕ) → k < m → Dec (k ≡ a) → f k + only (eqb k a) 1 ≤ g k
    go k q (yes e) = rw (eq-eqb k a e) (rw e (omega arith))
    go k q (no e) = rw (ne_eqb k a e) (omega (arith, h k q))
