-- Times counted back, by place, after a store, and twice; and that windows told the other way round are mirrored in time.
use Prim.Native.Nat.{ℕ, zero, suc, ◌+◌, ◌-◌, ◌≤◌, ◌<◌}
use native.Mathlib.Omega.{arith}
use native.Mathlib.Decide.{ℕ_discrete}
use mathlib.Core.Path.{◌≡◌, refl, sym, ap, ◌∙◌}
use mathlib.Core.List.{List, [], ◌∷◌}
use lib.ListN.{length, set, length-map}
use lib.Seq.{get_or-set_same, get_or-set_other}
use Rattle.lists.specs.Lists.{◌!◌}
use Rattle.lists.proofs.Lists.{same_list, everywhere}
use Rattle.joblist.specs.Limits.{most_time}
use Rattle.heads.specs.Mirror.{Mirror}
use Rattle.mirrors.specs.Back.{counted_back, told}

pub back_length : (xs : List ℕ) → length (counted_back xs) ≡ length xs
unfolding counted_back
back_length xs = length-map xs (λ t. most_time - t)

pub back_at : (xs : List ℕ) (k : ℕ) → k < length xs → counted_back xs ! k ≡ most_time - xs ! k
unfolding counted_back
back_at [] k h = absurd (omega arith)
back_at (x ∷ xs) zero h = refl
back_at (x ∷ xs) (suc k) h = back_at xs k (omega arith)

pub back_most : (xs : List ℕ) (k : ℕ) → counted_back xs ! k ≤ most_time
back_most xs = everywhere (counted_back xs) (length xs) most_time (back_length xs) (λ k h. omega (arith, back_at xs k h))

pub back_set : (xs : List ℕ) (j b : ℕ) → counted_back (set xs j b) ≡ set (counted_back xs) j (most_time - b)
unfolding counted_back
back_set [] j b = refl
back_set (x ∷ xs) zero b = refl
back_set (x ∷ xs) (suc j) b = ap (λ (ys : List ℕ). (most_time - x) ∷ ys) (back_set xs j b)

pub back_back : (xs : List ℕ) → ((k : ℕ) → xs ! k ≤ most_time) → counted_back (counted_back xs) ≡ xs
back_back xs h =
    same_list (length xs) (counted_back (counted_back xs)) xs (back_length (counted_back xs) ∙ back_length xs) refl
    (λ k b. omega (arith, back_at (counted_back xs) k (omega (arith, back_length xs)), back_at xs k b, h k))

pub mirrored : (n : ℕ) (xs ys : List ℕ) → length xs ≡ n → length ys ≡ n → ((k : ℕ) → xs ! k ≤ most_time) → ((k : ℕ) → ys ! k ≤ most_time)
    → Mirror n most_time (told xs ys) (told ys xs)
mirrored n xs ys e f g h =
    record {
      early = λ k b. omega (arith, back_at ys k (omega arith), h k);
      late = λ k b. omega (arith, back_at xs k (omega arith), g k);
    }

-- ---- the walk: the first i times are counted back, the others as they were

pub record Counting (xs ys : List ℕ) (i : ℕ) : Type 0 where
  pub done : (k : ℕ) → k < i → ys ! k ≡ most_time - xs ! k
  pub left : (k : ℕ) → i ≤ k → ys ! k ≡ xs ! k

pub counting_start : (xs : List ℕ) → Counting xs xs 0
counting_start xs = record { done = λ k h. absurd (omega arith); left = λ k h. refl }

module _ (xs ys : List ℕ) (i : ℕ) (C : Counting xs ys i) (long : length ys ≡ length xs) where
  pub counting_step : i < length xs → Counting xs (set ys i (most_time - ys ! i)) (i + 1)
  counting_step h =
      record {
        done = λ k b. elim (ℕ_discrete k i) [
          | yes q ↦ rw q (get_or-set_same ys i (most_time - ys ! i) 0 (omega (arith, long)) ∙ ap (λ (t : ℕ). most_time - t) (C.left i (omega arith)))
          | no q ↦ get_or-set_other ys i k (most_time - ys ! i) 0 q ∙ C.done k (omega arith)
        ];
        left = λ k b. get_or-set_other ys i k (most_time - ys ! i) 0 (λ q. omega arith) ∙ C.left k (omega arith);
      }

  pub counting_end : length xs ≤ i → ys ≡ counted_back xs
  counting_end h =
      same_list (length xs) ys (counted_back xs) long (back_length xs) (λ k b. C.done k (omega arith) ∙ sym (back_at xs k b))
