-- A number that has to be a given one: by a number up to it, what it takes, and when it is refused.
use Prim.Native.Nat.{ℕ, ◌<◌}
use native.Mathlib.Omega.{arith}
use mathlib.Core.Path.{◌≡◌, refl}
use mathlib.Core.Bool.{Bool, true, false, cond}
use mathlib.Core.List.{List, [], ◌∷◌}
use mathlib.Core.Logic.{◌⊎◌, inl, inr, ◌↔◌}
use lib.Dec.{eqb}
use lib.ListN.{length}
use borrow.Author.Tests.{eqb-true, eqb-false, eq-eqb, ne_eqb}
use Rattle.texts.specs.Tokens.{Token, number, other}
use Rattle.texts.specs.Readings.{bad, good, one, exactly}
use Rattle.texts.proofs.Readings.{bad_not_good}
use Rattle.texts.proofs.Exactly.{NoNumber, NumberThat, OneRefused, one_refused, one_read}

-- ---- by a number up to it

module _ (v : ℕ) (ts : List Token) where
  pub exactly_same : (x : ℕ) (rest : List Token) → one v 30 ts ≡ good x rest → x ≡ v → exactly v ts ≡ good x rest
  unfolding exactly
  exactly_same x rest e q = rw (((one_read v 30 ts x rest).0 e).0, eq-eqb x v q)

  pub exactly_less : (x : ℕ) (rest : List Token) → one v 30 ts ≡ good x rest → (x ≡ v → ⊥) → exactly v ts ≡ bad 30
  unfolding exactly
  exactly_less x rest e q = rw (((one_read v 30 ts x rest).0 e).0, ne_eqb x v q)

  pub exactly_bad : (c : ℕ) → one v 30 ts ≡ bad c → exactly v ts ≡ bad c
  unfolding exactly
  exactly_bad c e = go ((one_refused v 30 c ts).0 e)
    where
      go : OneRefused v 30 c ts → exactly v ts ≡ bad c
      go (inl (inl p, q)) = rw (p, q)
      go (inl (inr (rest, p), q)) = rw (p, q)
      go (inr ((x, rest, p, h), q)) = let d : x ≡ v → ⊥ = λ z. omega arith in rw (p, ne_eqb x v d, q)

-- ---- in facts: 30 where no number stands, or another one

abbrev pub ExactlyRefused : ℕ → ℕ → List Token → Type 0
ExactlyRefused v c ts = (NoNumber ts ⊎ NumberThat (λ x. x ≡ v → ⊥) ts) × (c ≡ 30)

exactly_to : (v c : ℕ) (ts : List Token) → exactly v ts ≡ bad c → ExactlyRefused v c ts
unfolding exactly
exactly_to v c [] e = (inl (inl refl), cc)
exactly_to v c (other ∷ ts) e = (inl (inr (ts, refl)), cc)
exactly_to v c (number x ∷ ts) e = go (eqb x v) refl e
  where
    go : (b : Bool) → eqb x v ≡ b → cond b (good x ts) (bad 30) ≡ bad c → ExactlyRefused v c (number x ∷ ts)
    go true h q = bad_not_good (good x ts) c x ts q refl
    go false h q = (inr (x, ts, refl, eqb-false x v h), cc)

exactly_from : (v c : ℕ) (ts : List Token) → ExactlyRefused v c ts → exactly v ts ≡ bad c
unfolding exactly
exactly_from v c ts (inl (inl e), q) = rw (e, q)
exactly_from v c ts (inl (inr (rest, e)), q) = rw (e, q)
exactly_from v c ts (inr (x, rest, e, d), q) = rw (e, ne_eqb x v d, q)

pub exactly_refused : (v c : ℕ) (ts : List Token) → (exactly v ts ≡ bad c) ↔ ExactlyRefused v c ts
exactly_refused v c ts = (exactly_to v c ts, exactly_from v c ts)

-- a number that was read is that one, and a token fewer is left
pub exactly_takes : (v x : ℕ) (ts rest : List Token) → exactly v ts ≡ good x rest → (length rest < length ts) × (x ≡ v)
unfolding exactly
exactly_takes v x [] rest e = bad_not_good (bad 30) 30 x rest refl e
exactly_takes v x (other ∷ ts) rest e = bad_not_good (bad 30) 30 x rest refl e
exactly_takes v x (number y ∷ ts) rest e = go (eqb y v) refl e
  where
    go : (b : Bool) → eqb y v ≡ b → cond b (good y ts) (bad 30) ≡ good x rest → (length rest < length (number y ∷ ts)) × (x ≡ v)
    go true h q = let z : y ≡ x = cc in let u : ts ≡ rest = cc in rw (← u, ← z) (omega arith, eqb-true y v h)
    go false h q = bad_not_good (bad 30) 30 x rest refl q
