-- The greatest and the least number of a stretch at which a test passes, if there is one.
use Rattle.std.specs.Prelude.{ℕ, zero, suc, ◌+◌, ◌≤◌, ◌<◌, ◌≡◌, Bool, true, false}
use Rattle.std.proofs.Math.Option.{Option, none, some}

-- t where the test passes, else x; what a `let` binds to x is looked for only then
abbrev pub or_else : Bool → ℕ → Option ℕ → Option ℕ
or_else true t x = some t
or_else false t x = x

-- the greatest t with a ≤ t < a + k that passes
unfoldable pub greatest : (ℕ → Bool) → ℕ → ℕ → Option ℕ
greatest f a zero = none
greatest f a (suc k) = let rest = greatest f a k in or_else (f (a + k)) (a + k) rest

-- the least t with a ≤ t < a + k that passes
unfoldable pub least : (ℕ → Bool) → ℕ → ℕ → Option ℕ
least f a zero = none
least f a (suc k) = let rest = least f (suc a) k in or_else (f a) a rest

-- the number found, else m
abbrev pub found_or : ℕ → Option ℕ → ℕ
found_or m none = m
found_or m (some t) = t

-- t lies in the stretch of k numbers from a, and has P
pub record In (P : ℕ → Type 0) (a k t : ℕ) : Type 0 where
  pub from : a ≤ t
  pub to : t < a + k
  pub has : P t

-- t is the greatest of them, or there is none
abbrev pub Greatest : (ℕ → Type 0) → ℕ → ℕ → Option ℕ → Type 0
Greatest P a k none = (t : ℕ) → In P a k t → ⊥
Greatest P a k (some t) = In P a k t × ((u : ℕ) → In P a k u → u ≤ t)

-- t is the least of them, or there is none
abbrev pub Least : (ℕ → Type 0) → ℕ → ℕ → Option ℕ → Type 0
Least P a k none = (t : ℕ) → In P a k t → ⊥
Least P a k (some t) = In P a k t × ((u : ℕ) → In P a k u → t ≤ u)

-- where a ≤ b: x is one more than the last t with a ≤ t < b that has P, and a where there is none
pub record LastWith (P : ℕ → Type 0) (a b x : ℕ) : Type 0 where
  pub from : a ≤ x
  pub to : x ≤ b
  pub has : (t : ℕ) → suc t ≡ x → a ≤ t → P t
  pub none_behind : (t : ℕ) → x ≤ t → t < b → P t → ⊥

-- where a ≤ b: x is the first t with a ≤ t < b that has P, and b where there is none
pub record FirstWith (P : ℕ → Type 0) (a b x : ℕ) : Type 0 where
  pub from : a ≤ x
  pub to : x ≤ b
  pub has : x < b → P x
  pub none_before : (t : ℕ) → a ≤ t → t < x → P t → ⊥
