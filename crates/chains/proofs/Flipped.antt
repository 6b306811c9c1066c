-- Pairs taken the other way round.
use Prim.Native.Nat.{ℕ}
use mathlib.Core.Path.{◌≡◌, refl, ap}
use mathlib.Core.Bool.{Bool, true, false}
use mathlib.Core.List.{List, [], ◌∷◌}
use mathlib.Core.Logic.{inl, inr}
use Rattle.chains.specs.Paths.{Pair, Precedes, Below, flipped}

pub flipped_false : (ps : List Pair) → flipped false ps ≡ ps
flipped_false [] = refl
flipped_false (x ∷ ps) = ap (λ l. x ∷ l) (flipped_false ps)

pub back_of : (ps : List Pair) (a b : ℕ) → Precedes (flipped true ps) a b → Precedes ps b a
back_of [] a b r = r
back_of (x ∷ ps) a b (inl e) = inl (e.1, e.0)
back_of (x ∷ ps) a b (inr r) = inr (back_of ps a b r)

pub of_back : (ps : List Pair) (a b : ℕ) → Precedes ps b a → Precedes (flipped true ps) a b
of_back [] a b r = r
of_back (x ∷ ps) a b (inl e) = inl (e.1, e.0)
of_back (x ∷ ps) a b (inr r) = inr (of_back ps a b r)

pub below_flipped : (back : Bool) (ps : List Pair) (n : ℕ) → Below n (Precedes ps) → Below n (Precedes (flipped back ps))
below_flipped true [] n f a b r = absurd r
below_flipped false [] n f a b r = absurd r
below_flipped true (x ∷ ps) n f a b (inl e) = let q = f b a (inl (e.1, e.0)) in (q.1, q.0)
below_flipped false (x ∷ ps) n f a b (inl e) = f a b (inl e)
below_flipped true (x ∷ ps) n f a b (inr r) = below_flipped true ps n (λ c d q. f c d (inr q)) a b r
below_flipped false (x ∷ ps) n f a b (inr r) = below_flipped false ps n (λ c d q. f c d (inr q)) a b r
