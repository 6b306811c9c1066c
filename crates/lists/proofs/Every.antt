-- What holds of every number of a list, or of everything else that a list holds.
use Prim.Native.Nat.{ℕ, suc, ◌+◌, ◌≤◌, ◌<◌}
use native.Mathlib.Omega.{arith}
use mathlib.Core.List.{List, [], ◌∷◌}
use lib.ListN.{length}
use Rattle.lists.specs.Lists.{◌!◌, Every}

pub every_map : {A : Type 0} (P Q : A → Type 0) → ((x : A) → P x → Q x) → (xs : List A) → Every P xs → Every Q xs
every_map P Q f [] h = tt
every_map P Q f (x ∷ xs) h = (f x h.0, every_map P Q f xs h.1)

-- what holds at each place holds of every number
pub every_from : (P : ℕ → Type 0) (xs : List ℕ) → ((k : ℕ) → k < length xs → P (xs ! k)) → Every P xs
every_from P [] h = tt
every_from P (x ∷ xs) h = (h 0 (omega arith), every_from P xs (λ k l. h (suc k) (omega arith)))

-- each is less than all behind it, by a number of its own
abbrev pub Climbs : {A : Type 0} → (A → ℕ) → List A → Type 0
Climbs key [] = Unit {0}
Climbs key (x ∷ xs) = Every (λ y. key x < key y) xs × Climbs key xs

climb_from : {A : Type 0} (key : A → ℕ) (top low : ℕ) (xs : List A) → Climbs key xs → Every (λ x. key x < top) xs → Every (λ x. low ≤ key x) xs → low ≤ top → low + length xs ≤ top
climb_from key top low [] c h k l = omega arith
climb_from key top low (x ∷ xs) c h k l = let q = climb_from key top (suc (key x)) xs c.1 h.1 c.0 h.0 in omega (arith, q, k.0)

-- then there are no more of them than numbers
pub climb_few : {A : Type 0} (key : A → ℕ) (top : ℕ) (xs : List A) → Climbs key xs → Every (λ x. key x < top) xs → length xs ≤ top
climb_few key top xs c h = let q = climb_from key top 0 xs c h (every_map (λ x. key x < top) (λ x. 0 ≤ key x) (λ x l. omega arith) xs h) (omega arith) in omega arith
