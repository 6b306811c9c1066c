-- The tokens left at a place of a text, by the byte that stands there: `tokens_inside` says them of a text that goes on inside a token.
use Prim.Native.Nat.{ℕ, suc, ◌+◌, ◌-◌, ◌*◌, ◌≤◌, ◌<◌}
use native.Mathlib.Numerals.{add-one}
use native.Mathlib.Omega.{arith}
use mathlib.Core.Path.{◌≡◌, refl, sym, ◌∙◌}
use mathlib.Core.Bool.{Bool, true, false, cond, not}
use mathlib.Core.List.{List, [], ◌∷◌, map}
use lib.ListN.{length, drop, drop_of_length-le}
use lib.Seq.{drop-cons}
use Rattle.lists.specs.Lists.{◌!◌}
use Rattle.texts.specs.Tokens.{blank, digit, goes_on, onto, solid_runs, Token, number, other, more, token_from, token, tokens}
use Rattle.scanner.specs.Scan.{tokens_inside, Skipped, Heads}
use Rattle.scanner.specs.declared.scan.Next.{Next}
use Rattle.scanner.specs.declared.scan.Next.TheVariants.{Number, Other, End}

-- ---- the token that a text goes on with

-- the runs of a text that goes on inside w: the first of them is w's
abbrev front : Token → List (List ℕ) → List Token
front w [] = w ∷ []
front w (t ∷ ts) = token_from w t ∷ map token ts

front_onto : (w : Token) (b : ℕ) (ts : List (List ℕ)) → front w (onto b ts) ≡ front (more w b) ts
unfolding token_from
front_onto w b [] = refl
front_onto w b (t ∷ ts) = refl

inside_is : (w : Token) (s : List ℕ) → tokens_inside w s ≡ cond (goes_on s) (front w (solid_runs s)) (w ∷ tokens s)
unfolding tokens_inside solid_runs tokens token_from
inside_is w [] = refl
inside_is w (b ∷ s) = go (blank b) (goes_on s) (inside_is (more w b) s)
  where
    go : (t u : Bool) → tokens_inside (more w b) s ≡ cond u (front (more w b) (solid_runs s)) (more w b ∷ tokens s)
        → cond t (w ∷ tokens s) (tokens_inside (more w b) s)
        ≡ cond (not t) (front w (cond t (solid_runs s) (cond u (onto b (solid_runs s)) ((b ∷ []) ∷ solid_runs s)))) (w ∷ map token (cond t (solid_runs s) (cond u (onto b (solid_runs s)) ((b ∷ []) ∷ solid_runs s))))
    go true u e = refl
    go false true e = e ∙ sym (front_onto w b (solid_runs s))
    go false false e = e

-- where no blank stands, the tokens are those of a text that goes on inside the number of no digits
tokens_inside_lem : (b : ℕ) (s : List ℕ) → blank b ≡ false → tokens (b ∷ s) ≡ tokens_inside (number 0) (b ∷ s)
unfolding tokens solid_runs tokens_inside
tokens_inside_lem b s e = rw e (go (goes_on s) (solid_runs s) ∙ sym (inside_is (more (number 0) b) s))
  where
    go : (u : Bool) (ts : List (List ℕ)) → map token (cond u (onto b ts) ((b ∷ []) ∷ ts)) ≡ cond u (front (more (number 0) b) ts) (more (number 0) b ∷ map token ts)
    go true [] = refl
    go true (t ∷ ts) = refl
    go false [] = refl
    go false (t ∷ ts) = refl

-- no byte makes a number of what is none
other_other : (s : List ℕ) → (ts : List Token) × (tokens_inside other s ≡ other ∷ ts)
unfolding tokens_inside
other_other [] = ([], refl)
other_other (b ∷ s) = go (blank b) (other_other s)
  where
    go : (t : Bool) → (ts : List Token) × (tokens_inside other s ≡ other ∷ ts) → (ts : List Token) × (cond t (other ∷ tokens s) (tokens_inside other s) ≡ other ∷ ts)
    go true q = (tokens s, refl)
    go false q = q

-- ---- at a place of the text

module _ (s : List ℕ) (i : ℕ) where
  pub tokens_none : length s ≤ i → tokens (drop i s) ≡ []
  unfolding tokens solid_runs
  tokens_none h = rw (drop_of_length-le s h)

  pub inside_end : (w : Token) → length s ≤ i → tokens_inside w (drop i s) ≡ w ∷ tokens (drop (length s) s)
  unfolding tokens_inside tokens solid_runs
  inside_end w h =
      let e : length s ≤ length s = omega arith in
      rw (drop_of_length-le s h, drop_of_length-le s e)

  module _ (h : i < length s) where
    pub tokens_start : blank (s ! i) ≡ false → tokens (drop i s) ≡ tokens_inside (number 0) (drop i s)
    tokens_start e = rw (drop-cons s i 0 h) (tokens_inside_lem (s ! i) (drop (suc i) s) e)

    pub inside_blank : (w : Token) → blank (s ! i) ≡ true → tokens_inside w (drop i s) ≡ w ∷ tokens (drop i s)
    unfolding tokens_inside tokens solid_runs
    inside_blank w e = rw (drop-cons s i 0 h, e)

    pub inside_digit : (x : ℕ) → blank (s ! i) ≡ false → digit (s ! i) ≡ true → tokens_inside (number x) (drop i s) ≡ tokens_inside (number (x * 10 + (s ! i - 48))) (drop (i + 1) s)
    unfolding tokens_inside
    inside_digit x e d = rw (add-one, drop-cons s i 0 h, e, d)

    pub inside_other : (x : ℕ) → blank (s ! i) ≡ false → digit (s ! i) ≡ false → (ts : List Token) × (tokens_inside (number x) (drop i s) ≡ other ∷ ts)
    unfolding tokens_inside
    inside_other x e d = rw (drop-cons s i 0 h, e, d) (other_other (drop (suc i) s))

-- from the token that starts at `to`, blanks before it, to the first one from `at` on
pub token_next : (s : List ℕ) (at to : ℕ) (r : Next) → Skipped s at to → to < length s → Heads (tokens_inside (number 0) (drop to s)) s r → Heads (tokens (drop at s)) s r
token_next s at to (Number v end) k h t = (t.0, t.1, k.same ∙ tokens_start s to h (k.stops h) ∙ t.2)
token_next s at to Other k h t = (t.0, k.same ∙ tokens_start s to h (k.stops h) ∙ t.1)
token_next s at to End k h t = k.same ∙ tokens_start s to h (k.stops h) ∙ t
