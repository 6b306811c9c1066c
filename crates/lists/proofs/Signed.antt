-- Signed numbers as differences of naturals, so that omega does the arithmetic. Every law is over two naturals a - b, `sub_ℕ a b`.
use Prim.Native.Nat.{ℕ, zero, suc, ◌+◌, ◌-◌, ◌≤◌, ◌<◌}
use mathlib.Core.Path.{◌≡◌, refl, sym, ap, ◌∙◌}
use native.Mathlib.Omega.{arith}
use native.Mathlib.Nat.{add-zero, sub-zero, le_refl}
use native.Mathlib.Decide.{dec_lt, dec_le}
use borrow.Author.Tests.{lt-ltb, le-ltb, le-leb, lt-leb}
use lib.Dec.{leb}
use lib.IntN.{ℤ, pos, negsuc, sub_ℕ, ◌+ℤ◌, ◌-ℤ◌}
use lib.Signed.{mag, le_z}

-- the two forms
pub sub_lt : (a b : ℕ) → a < b → sub_ℕ a b ≡ negsuc (b - suc a)
sub_lt a b h = rw (lt-ltb a b h)

pub sub_ge : (a b : ℕ) → b ≤ a → sub_ℕ a b ≡ pos (a - b)
sub_ge a b h = rw (le-ltb a b h)

pub pos_is : (a : ℕ) → pos a ≡ sub_ℕ a 0
pos_is a = sym (sub_ge a 0 (omega arith) ∙ ap pos (sub-zero a))

pub pos_sub : (a b : ℕ) → pos a -ℤ pos b ≡ sub_ℕ a b
pos_sub a zero = ap pos (add-zero a) ∙ pos_is a
pos_sub a (suc b) = refl

-- a difference by a case: both forms are shown once
by_case : (P : ℤ → Type 0) (a b : ℕ) → (a < b → P (negsuc (b - suc a))) → (b ≤ a → P (pos (a - b))) → P (sub_ℕ a b)
by_case P a b f g = go (dec_lt a b)
  where
    go : Dec (a < b) → P (sub_ℕ a b)
    go (yes h) = rw (sub_lt a b h) (f h)
    go (no h) = rw (sub_ge a b (omega arith)) (g (omega arith))

-- equal differences
pub sub_same : (a b c d : ℕ) → a + d ≡ c + b → sub_ℕ a b ≡ sub_ℕ c d
sub_same a b c d e =
    by_case (λ (z : ℤ). z ≡ sub_ℕ c d) a b
    (λ h. sym (sub_lt c d (omega arith) ∙ ap negsuc (omega arith)))
    (λ h. sym (sub_ge c d (omega arith) ∙ ap pos (omega arith)))

pub sub-add : (a b c : ℕ) → sub_ℕ a b +ℤ pos c ≡ sub_ℕ (a + c) b
sub-add a b c =
    by_case (λ (z : ℤ). z +ℤ pos c ≡ sub_ℕ (a + c) b) a b
    (λ h. sub_same c (suc (b - suc a)) (a + c) b (omega arith))
    (λ h. pos_is (a - b + c) ∙ sub_same (a - b + c) 0 (a + c) b (omega arith))

pub sub_mag : (a b n : ℕ) → a < n → b ≤ n → mag (sub_ℕ a b) < n
sub_mag a b n h k = by_case (λ (z : ℤ). mag z < n) a b (λ l. omega arith) (λ l. omega arith)

-- orders
not-le : (x y : ℕ) → (x ≤ y → ⊥) → y < x
not-le x y h = omega arith

leb_same : (x y x' y' : ℕ) → (x ≤ y → x' ≤ y') → (x' ≤ y' → x ≤ y) → leb x y ≡ leb x' y'
leb_same x y x' y' f g = go (dec_le x y)
  where
    go : Dec (x ≤ y) → leb x y ≡ leb x' y'
    go (yes h) = le-leb x y h ∙ sym (le-leb x' y' (f h))
    go (no h) = lt-leb x y (omega arith) ∙ sym (lt-leb x' y' (not-le x' y' (λ q. h (g q))))

pub sub_leb : (a b c d : ℕ) → le_z (sub_ℕ a b) (sub_ℕ c d) ≡ leb (a + d) (c + b)
sub_leb a b c d =
    by_case (λ (z : ℤ). le_z z (sub_ℕ c d) ≡ leb (a + d) (c + b)) a b
    (λ h. by_case (λ (z : ℤ). le_z (negsuc (b - suc a)) z ≡ leb (a + d) (c + b)) c d
    (λ k. leb_same (d - suc c) (b - suc a) (a + d) (c + b) (λ q. omega arith) (λ q. omega arith))
    (λ k. sym (le-leb (a + d) (c + b) (omega arith))))
    (λ h. by_case (λ (z : ℤ). le_z (pos (a - b)) z ≡ leb (a + d) (c + b)) c d
    (λ k. sym (lt-leb (a + d) (c + b) (omega arith)))
    (λ k. leb_same (a - b) (c - d) (a + d) (c + b) (λ q. omega arith) (λ q. omega arith)))

-- a sum's size
pub mag_add : (z : ℤ) (c : ℕ) → mag (z +ℤ pos c) ≤ mag z + c
mag_add (pos a) c = le_refl (a + c)
mag_add (negsuc a) c = by_case (λ (z : ℤ). mag z ≤ a + c) c (suc a) (λ h. omega arith) (λ h. omega arith)
