-- The searches find the greatest and the least where the test passes, and nothing where it passes nowhere; there is one answer; and a number that says
-- where the last or the first is, or that there is none, says what the greatest or the least is.
use Prim.Native.Nat.{ℕ, zero, suc, ◌+◌, ◌≤◌, ◌<◌}
use native.Mathlib.Omega.{arith}
use native.Mathlib.Decide.{ℕ_discrete, dec_lt}
use mathlib.Core.Path.{◌≡◌, refl, ap}
use mathlib.Core.Bool.{Bool, true, false}
use mathlib.Core.Option.{Option, none, some}
use Rattle.lists.specs.Extremes.{or_else, greatest, least, Greatest, Least, LastWith, FirstWith}

module _ (P : ℕ → Type 0) (f : ℕ → Bool) (sound : (t : ℕ) → f t ≡ true → P t) (full : (t : ℕ) → P t → f t ≡ true) where
  failed : (t u : ℕ) → t ≡ u → f u ≡ false → P t → ⊥
  failed t u e h p = let z : ◌≡◌ {A = ℕ} 0 1 = cc (full t p) in omega arith

  pub greatest_is : (a k : ℕ) → Greatest P a k (greatest f a k)
  unfolding greatest
  greatest_is a zero = λ t i. omega arith
  greatest_is a (suc k) = go (f (a + k)) refl (greatest f a k) (greatest_is a k)
    where
      go : (b : Bool) → f (a + k) ≡ b → (x : Option ℕ) → Greatest P a k x → Greatest P a (suc k) (or_else b (a + k) x)
      go true h x d = (record { from = omega arith; to = omega arith; has = sound (a + k) h }, λ u i. omega arith)
      go false h none d = λ t i.
          elim (dec_lt t (a + k)) [
            | yes q ↦ d t (record { from = i.from; to = q; has = i.has })
            | no q ↦ failed t (a + k) (omega arith) h i.has
          ]
      go false h (some t) d = (
        record { from = d.0.from; to = omega (arith, d.0.to); has = d.0.has },
        λ u i.
            elim (dec_lt u (a + k)) [
              | yes q ↦ d.1 u (record { from = i.from; to = q; has = i.has })
              | no q ↦ absurd (failed u (a + k) (omega arith) h i.has)
            ],
      )

  pub least-is : (k a : ℕ) → Least P a k (least f a k)
  unfolding least
  least-is zero a = λ t i. omega arith
  least-is (suc k) a = go (f a) refl (least f (suc a) k) (least-is k (suc a))
    where
      go : (b : Bool) → f a ≡ b → (x : Option ℕ) → Least P (suc a) k x → Least P a (suc k) (or_else b a x)
      go true h x d = (record { from = omega arith; to = omega arith; has = sound a h }, λ u i. i.from)
      go false h none d = λ t i.
          elim (ℕ_discrete t a) [
            | yes q ↦ failed t a q h i.has
            | no q ↦ d t (record { from = omega (arith, i.from); to = omega (arith, i.to); has = i.has })
          ]
      go false h (some t) d = (
        record { from = omega (arith, d.0.from); to = omega (arith, d.0.to); has = d.0.has },
        λ u i.
            elim (ℕ_discrete u a) [
              | yes q ↦ absurd (failed u a q h i.has)
              | no q ↦ d.1 u (record { from = omega (arith, i.from); to = omega (arith, i.to); has = i.has })
            ],
      )

-- ---- one answer

module _ (P : ℕ → Type 0) (a k : ℕ) where
  pub greatest-one : (x y : Option ℕ) → Greatest P a k x → Greatest P a k y → x ≡ y
  greatest-one none none g h = refl
  greatest-one none (some u) g h = absurd (g u h.0)
  greatest-one (some t) none g h = absurd (h t g.0)
  greatest-one (some t) (some u) g h = ap some (omega (arith, g.1 u h.0, h.1 t g.0))

  pub least-one : (x y : Option ℕ) → Least P a k x → Least P a k y → x ≡ y
  least-one none none g h = refl
  least-one none (some u) g h = absurd (g u h.0)
  least-one (some t) none g h = absurd (h t g.0)
  least-one (some t) (some u) g h = ap some (omega (arith, g.1 u h.0, h.1 t g.0))

-- ---- the last and the first, by a number

module _ {P Q : ℕ → Type 0} (there : (t : ℕ) → P t → Q t) (back : (t : ℕ) → Q t → P t) {a b x : ℕ} where
  pub last_as : LastWith P a b x → LastWith Q a b x
  last_as L =
      record { from = L.from; to = L.to; has = λ t e h. there t (L.has t e h); none_behind = λ t h g q. L.none_behind t h g (back t q) }

  pub first_as : FirstWith P a b x → FirstWith Q a b x
  first_as F = record { from = F.from; to = F.to; has = λ h. there x (F.has h); none_before = λ t h g q. F.none_before t h g (back t q) }

module _ {P : ℕ → Type 0} {a k x : ℕ} where
  pub last_none : LastWith P a (a + k) x → x ≤ a → Greatest P a k none
  last_none L h t i = L.none_behind t (omega (arith, i.from)) i.to i.has

  pub last_some : LastWith P a (a + k) x → (t : ℕ) → suc t ≡ x → a ≤ t → Greatest P a k (some t)
  last_some L t e h = (
    record { from = h; to = omega (arith, L.to); has = L.has t e h },
    λ u i. elim (dec_lt t u) [ yes d ↦ absurd (L.none_behind u (omega arith) i.to i.has) | no d ↦ omega arith ],
  )

  pub first-none : FirstWith P a (a + k) x → a + k ≤ x → Least P a k none
  first-none F h t i = F.none_before t i.from (omega (arith, i.to)) i.has

  pub first_some : FirstWith P a (a + k) x → x < a + k → Least P a k (some x)
  first_some F h = (
    record { from = F.from; to = h; has = F.has h },
    λ u i. elim (dec_lt u x) [ yes d ↦ absurd (F.none_before u i.from d i.has) | no d ↦ omega arith ],
  )
