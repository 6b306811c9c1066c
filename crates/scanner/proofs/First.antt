-- The first byte of a text that passes a test: found place by place, and the tokens from it on.
use Prim.Native.Nat.{ℕ, suc, ◌+◌, ◌≤◌, ◌<◌}
use native.Mathlib.Numerals.{add-one}
use native.Mathlib.Omega.{arith}
use mathlib.Core.Path.{◌≡◌, refl, sym, ap, ◌∙◌}
use mathlib.Core.Bool.{Bool, true, false, cond, not}
use mathlib.Core.List.{List, [], ◌∷◌}
use lib.ListN.{length, drop, drop_of_length-le}
use lib.Seq.{drop-cons}
use Rattle.lists.specs.Lists.{◌!◌}
use Rattle.texts.specs.Tokens.{blank, tokens}
use Rattle.scanner.specs.Scan.{from_first, Skipped}
use Rattle.scanner.proofs.Runs.{tokens_over}

module _ (f : ℕ → Bool) (s : List ℕ) (i : ℕ) where
  pub first_end : length s ≤ i → drop (length s) s ≡ from_first f (drop i s)
  unfolding from_first
  first_end h =
      let e : length s ≤ length s = omega arith in
      rw (drop_of_length-le s h, drop_of_length-le s e)

  module _ (h : i < length s) where
    pub first_here : f (s ! i) ≡ true → drop i s ≡ from_first f (drop i s)
    unfolding from_first
    first_here e = rw (drop-cons s i 0 h, e)

    pub first_other : f (s ! i) ≡ false → from_first f (drop i s) ≡ from_first f (drop (i + 1) s)
    unfolding from_first
    first_other e = rw (add-one, drop-cons s i 0 h, e)

-- what it starts with passes
first_passes : (f : ℕ → Bool) (s : List ℕ) (b : ℕ) (t : List ℕ) → b ∷ t ≡ from_first f s → f b ≡ true
unfolding from_first
first_passes f [] b t e = let z : length (b ∷ t) ≡ 0 = ap length e in absurd (omega arith)
first_passes f (a ∷ s) b t e = go (f a) refl e (first_passes f s b t)
  where
    go : (here : Bool) → f a ≡ here → b ∷ t ≡ cond here (a ∷ s) (from_first f s) → (b ∷ t ≡ from_first f s → f b ≡ true) → f b ≡ true
    go true q e h = let z : b ≡ a = cc in rw (z, q)
    go false q e h = h e

pub first_stops : (f : ℕ → Bool) (s : List ℕ) (at to : ℕ) → drop to s ≡ from_first f (drop at s) → to < length s → f (s ! to) ≡ true
first_stops f s at to e h = first_passes f (drop at s) (s ! to) (drop (suc to) s) (sym (drop-cons s to 0 h) ∙ e)

-- blanks in front are no tokens
first_tokens : (s : List ℕ) → tokens s ≡ tokens (from_first (λ b. not (blank b)) s)
unfolding from_first
first_tokens [] = refl
first_tokens (b ∷ s) = go (blank b) refl (first_tokens s)
  where
    go : (here : Bool) → blank b ≡ here → tokens s ≡ tokens (from_first (λ a. not (blank a)) s)
        → tokens (b ∷ s) ≡ tokens (cond (not here) (b ∷ s) (from_first (λ a. not (blank a)) s))
    go true q h = tokens_over b s q ∙ h
    go false q h = refl

no_blank : (t : Bool) → not t ≡ true → t ≡ false
no_blank true e = sym e
no_blank false e = refl

pub skipped : (s : List ℕ) (at to : ℕ) → drop to s ≡ from_first (λ b. not (blank b)) (drop at s) → Skipped s at to
skipped s at to e = record {
  same = first_tokens (drop at s) ∙ rw (← e);
  stops = λ h. no_blank (blank (s ! to)) (first_stops (λ b. not (blank b)) s at to e h);
}
