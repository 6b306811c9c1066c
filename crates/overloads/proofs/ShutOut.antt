-- The wrong versions of the overload check, each refuted by the promise in facts, without the help of `answered`: none always (01, 'How firm the
-- statements are': case 10), and an overload of a = 8, b = 3 ('Errors a careful hand still makes': case 12).
use Prim.Native.Nat.{ℕ, zero, suc, ◌≤◌, ◌<◌}
use native.Mathlib.Omega.{arith}
use mathlib.Core.Path.{◌≡◌, refl}
use mathlib.Core.Bool.{true}
use mathlib.Core.List.{List, [], ◌∷◌}
use mathlib.Core.Logic.{◌↔◌}
use Rattle.answers.specs.Said.{Word, Said, said}
use Rattle.joblist.specs.Limits.{jobs}
use Rattle.lists.specs.Sets.{total_of}
use Rattle.narrowing.specs.Windows.{Win, win}
use Rattle.overloads.specs.Overload.{Overloaded, NoneOverloaded, FirstPair, nothing, overload}
use Rattle.overloads.specs.Promise.{Good}
use Rattle.overloads.proofs.Pairs.{nothing_sets, none_pairs}

abbrev case10 : Win
case10 = win (0 ∷ 0 ∷ 0 ∷ []) (4 ∷ 4 ∷ 4 ∷ [])

abbrev twos : List ℕ
twos = 2 ∷ 2 ∷ 2 ∷ []

-- all three jobs together start at 0, last 6 and end by 4
all_three : Overloaded 3 twos case10 (λ k. true)
unfolding total_of
all_three =
    record {
      from = 0;
      least = record { at = 0; below = omega arith; member = refl; is = refl; least = λ k b t. omega arith };
      upto = 4;
      greatest = record { at = 0; below = omega arith; member = refl; is = refl; greatest = λ k b t. late k b };
      over = omega arith;
    }
  where
    late : (k : ℕ) → k < 3 → Rattle.lists.specs.Lists.◌!◌ (4 ∷ 4 ∷ 4 ∷ []) k ≤ 4
    late zero b = omega arith
    late (suc zero) b = omega arith
    late (suc (suc zero)) b = omega arith
    late (suc (suc (suc k))) b = absurd (omega arith)

pub none_always : (a : Said) → ((a ≡ said Word.none []) ↔ (Good case10 twos × NoneOverloaded (jobs case10) twos case10)) → a ≡ said Word.none [] → ⊥
none_always a h e = (h.0 e).1 (λ k. true) all_three

abbrev case12 : Win
case12 = win (8 ∷ 0 ∷ []) (10 ∷ 3 ∷ [])

nothing_there : overload 2 (1 ∷ 1 ∷ []) case12 ≡ nothing
unfolding overload
nothing_there = refl

pub overload_there : (a : Said) → ((x y : ℕ) → (a ≡ said Word.overload (x ∷ y ∷ [])) ↔ (Good case12 (1 ∷ 1 ∷ []) × FirstPair (jobs case12) (1 ∷ 1 ∷ []) case12 x y))
    → (x y : ℕ) → a ≡ said Word.overload (x ∷ y ∷ []) → ⊥
overload_there a h x y e = none_pairs 2 (1 ∷ 1 ∷ []) case12 (nothing_sets 2 (1 ∷ 1 ∷ []) case12 nothing_there) x y ((h x y).0 e).1.pair
