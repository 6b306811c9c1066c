-- Lists by place: after a store, beyond the end, of one number, one before another, from a rule, added place by place, and equal where their places are.
use Prim.Native.Nat.{ℕ, zero, suc, ◌+◌, ◌≤◌, ◌<◌}
use native.Mathlib.Omega.{arith}
use native.Mathlib.Decide.{dec_lt}
use mathlib.Core.Path.{◌≡◌, refl, sym, ap, ◌∙◌}
use mathlib.Core.List.{List, [], ◌∷◌, ◌++◌}
use lib.ListN.{set, length, replicate, get_or-eq_default}
use lib.Seq.{ext_get_or}
use Rattle.lists.specs.Lists.{◌!◌}

-- what holds of the stored number, and of the old one elsewhere, holds after a store
pub set_any : (P : ℕ → Type 0) (xs : List ℕ) (j a k : ℕ) → (k ≡ j → P a) → P (xs ! k) → P (set xs j a ! k)
set_any P [] j a k new old = old
set_any P (x ∷ xs) zero a zero new old = new refl
set_any P (x ∷ xs) zero a (suc k) new old = old
set_any P (x ∷ xs) (suc j) a zero new old = old
set_any P (x ∷ xs) (suc j) a (suc k) new old = set_any P xs j a k (λ q. new (ap suc q)) old

pub beyond : (xs : List ℕ) (k : ℕ) → length xs ≤ k → xs ! k ≡ 0
beyond xs k h = get_or-eq_default xs 0 h

pub zeros_at : (m k : ℕ) → ◌≡◌ {A = ℕ} (replicate m 0 ! k) 0
zeros_at zero k = refl
zeros_at (suc m) zero = refl
zeros_at (suc m) (suc k) = zeros_at m k

-- m times x, and 0 beyond
pub replicate_low : (m x top j : ℕ) → x ≤ top → replicate m x ! j ≤ top
replicate_low zero x top j h = omega arith
replicate_low (suc m) x top zero h = h
replicate_low (suc m) x top (suc j) h = replicate_low m x top j h

-- a number limited below the length is limited everywhere
pub everywhere : (xs : List ℕ) (n m : ℕ) → length xs ≡ n → ((j : ℕ) → j < n → xs ! j ≤ m) → (j : ℕ) → xs ! j ≤ m
everywhere xs n m e f j = elim (dec_lt j n) [ yes h ↦ f j h | no h ↦ omega (arith, beyond xs j (omega arith)) ]

-- in front of another list
pub front_at : (xs ys : List ℕ) (i : ℕ) → i < length xs → (xs ++ ys) ! i ≡ xs ! i
front_at [] ys i h = absurd (omega arith)
front_at (x ∷ xs) ys zero h = refl
front_at (x ∷ xs) ys (suc i) h = front_at xs ys i (omega arith)

-- lists of n numbers that agree below n are one list
pub same_list : (n : ℕ) (xs ys : List ℕ) → length xs ≡ n → length ys ≡ n → ((k : ℕ) → k < n → xs ! k ≡ ys ! k) → xs ≡ ys
same_list n xs ys a b f = ext_get_or 0 xs ys (a ∙ sym b) (λ k c. f k (omega arith))

-- f 0, .., f (n - 1)
unfoldable pub listed : ℕ → (ℕ → ℕ) → List ℕ
listed zero f = []
listed (suc n) f = f 0 ∷ listed n (λ k. f (suc k))

pub listed_at : (n : ℕ) (f : ℕ → ℕ) (k : ℕ) → k < n → listed n f ! k ≡ f k
unfolding listed
listed_at zero f k b = absurd (omega arith)
listed_at (suc n) f zero b = refl
listed_at (suc n) f (suc k) b = listed_at n (λ i. f (suc i)) k (omega arith)

pub listed_length : (n : ℕ) (f : ℕ → ℕ) → length (listed n f) ≡ n
unfolding listed
listed_length zero f = refl
listed_length (suc n) f = ap suc (listed_length n (λ k. f (suc k)))

-- sums by places; a list that ends early counts as zeros
unfoldable pub sums : List ℕ → List ℕ → List ℕ
sums [] ys = ys
sums (x ∷ xs) [] = x ∷ xs
sums (x ∷ xs) (y ∷ ys) = (x + y) ∷ sums xs ys

pub sums_at : (xs ys : List ℕ) (k : ℕ) → sums xs ys ! k ≡ xs ! k + ys ! k
unfolding sums
sums_at [] ys k = omega arith
sums_at (x ∷ xs) [] k = omega arith
sums_at (x ∷ xs) (y ∷ ys) zero = refl
sums_at (x ∷ xs) (y ∷ ys) (suc k) = sums_at xs ys k
