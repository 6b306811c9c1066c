-- Readings of tokens, one after the other: what was read and the tokens behind it, or the number of the first refusal met (document 02, Items 1
-- and 13: 30 where no number stands, another number where it is too large).
use Rattle.std.specs.Prelude.{ℕ, zero, suc, cond, List, [], ◌∷◌, leb, eqb}
use Rattle.texts.specs.Tokens.{Token, number, other}

-- a refusal's number, or what was read and the tokens behind it
pub data Read (A : Type 0) : Type 0 where
  bad : ℕ → Read A
  good : A → List Token → Read A

-- a second reading where the first was good
abbrev pub and_then : {A B : Type 0} → Read A → (A → List Token → Read B) → Read B
and_then (bad c) f = bad c
and_then (good a ts) f = f a ts

-- a number: 30 where the next token is none, `code` where it is above `top`
unfoldable pub one : ℕ → ℕ → List Token → Read ℕ
one top code [] = bad 30
one top code (other ∷ ts) = bad 30
one top code (number v ∷ ts) = cond (leb v top) (good v ts) (bad code)

-- the number v: 30 for anything else
unfoldable pub exactly : ℕ → List Token → Read ℕ
exactly v [] = bad 30
exactly v (other ∷ ts) = bad 30
exactly v (number x ∷ ts) = cond (eqb x v) (good x ts) (bad 30)

-- m readings, the first of them numbered j
unfoldable pub in_turn : {A : Type 0} → (ℕ → List Token → Read A) → ℕ → ℕ → List Token → Read (List A)
in_turn f j zero ts = good [] ts
in_turn f j (suc m) ts = and_then (f j ts) (λ a rest. and_then (in_turn f (suc j) m rest) (λ xs end. good (a ∷ xs) end))

-- m numbers up to `top`, 31 where one is above it
unfoldable pub numbers_up_to : ℕ → ℕ → List Token → Read (List ℕ)
unfolding in_turn one
numbers_up_to top m ts = in_turn (λ j. one top 31) 0 m ts

-- nothing more: 30 where a token is left over
abbrev pub nothing_more : {A : Type 0} → A → List Token → Read A
nothing_more a [] = good a []
nothing_more a (t ∷ ts) = bad 30
