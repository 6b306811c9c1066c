-- Numbers as code holds them: a digit more, and a number up to a limit.
use Prim.Native.Nat.{ℕ, ◌≤◌, ◌<◌}
use native.Mathlib.Omega.{arith}
use mathlib.Core.Path.{◌≡◌, refl}
use mathlib.Core.Bool.{Bool, true, false}
use Rattle.std.specs.Prelude.{◌&&◌}
use Rattle.std.specs.Char.{is_ascii_digit}
use Rattle.lists.specs.Tests.{both}
use mathlib.Core.List.{List, [], ◌∷◌}
use mathlib.Core.Logic.{◌⊎◌, inl, inr}
use lib.Dec.{leb}
use borrow.Author.Tests.{leb-true, le-leb, lt-leb}
use Rattle.lists.proofs.Tests.{both_true}
use Rattle.texts.specs.Tokens.{digit, Token, number, other}
use Rattle.texts.specs.Readings.{bad, good, one}
use Rattle.scanner.specs.Scan.{held, Capped, Heads}
use Rattle.scanner.specs.declared.scan.Next.{Next}
use Rattle.scanner.specs.declared.scan.Next.TheVariants.{Other, End}

pub digit_bounds : (b : ℕ) → digit b ≡ true → (48 ≤ b) × (b ≤ 57)
unfolding digit
digit_bounds b e = let q = both_true (leb 48 b) (leb b 57) e in (leb-true 48 b q.0, leb-true b 57 q.1)

-- std's test of a digit is the same
pub digit_is : (b : ℕ) → digit b ≡ is_ascii_digit b
unfolding digit
digit_is b = go (leb 48 b) (leb b 57)
  where
    go : (t u : Bool) → both t u ≡ t && u
    go true u = refl
    go false u = refl

-- ---- a number up to a limit

module _ (top code : ℕ) (ts rest : List Token) where
  pub one_good : (x v : ℕ) → top < held → Capped x v → v ≤ top → ts ≡ number x ∷ rest → one top code ts ≡ good v rest
  unfolding one
  one_good x v t c h e =
      let q : v ≡ x = c.itself (omega arith) in
      rw (e, ← q, le-leb v top h)

  pub one_large : (x v : ℕ) → Capped x v → top < v → ts ≡ number x ∷ rest → one top code ts ≡ bad code
  unfolding one
  one_large x v c h e = rw (e, lt-leb x top (omega (arith, c.under)))

  pub one_other : ts ≡ other ∷ rest → one top code ts ≡ bad 30
  unfolding one
  one_other e = rw e

pub one_none : (top code : ℕ) (ts : List Token) → ts ≡ [] → one top code ts ≡ bad 30
unfolding one
one_none top code ts e = rw e

-- where no number stands
pub one_neither : (top code : ℕ) (ts : List Token) (s : List ℕ) (r : Next) → (r ≡ Other) ⊎ (r ≡ End) → Heads ts s r → one top code ts ≡ bad 30
one_neither top code ts s r (inl e) h = one_other top code ts (rw e at h).0 (rw e at h).1
one_neither top code ts s r (inr e) h = one_none top code ts (rw e at h)
