-- The numbers of list k, and the words with others over them, by the place behind its length alone: where there is no such list nothing stands there, so that it
-- makes no difference that the place is then at the end of the words.
use mathlib.Core.Path.{◌≡◌, sym, ap, ◌∙◌}
use mathlib.Core.List.{List, ◌++◌}
use Prim.Native.Nat.{ℕ, suc, ◌+◌, ◌-◌, ◌≤◌}
use native.Mathlib.Omega.{arith}
use native.Mathlib.Decide.{dec_le}
use lib.ListN.{length, take, drop, drop_of_length-le}
use Rattle.std.proofs.lemmas.List.{drop-drop, take_all}
use Rattle.packed.specs.Packed.{start_of, first_of, list_of, laid_over, put_at}

-- either the list has a place behind its length, or the words end there
ends : (xs : List ℕ) (k : ℕ) → (start_of xs k + 1 ≤ start_of xs (suc k) → ⊥) → start_of xs (suc k) ≡ length xs
unfolding start_of
ends xs k h = omega arith

first_there : (xs : List ℕ) (k : ℕ) → start_of xs k + 1 ≤ start_of xs (suc k) → first_of xs k ≡ start_of xs k + 1
first_there xs k h = omega arith

first_none : (xs : List ℕ) (k : ℕ) → (start_of xs k + 1 ≤ start_of xs (suc k) → ⊥) → first_of xs k ≡ length xs
first_none xs k h = omega (arith, ends xs k h)

pub list_of_is : (xs : List ℕ) (k : ℕ) → list_of xs k ≡ take (start_of xs (suc k) - (start_of xs k + 1)) (drop (start_of xs k + 1) xs)
list_of_is xs k =
    elim (dec_le (start_of xs k + 1) (start_of xs (suc k))) [
      | yes h ↦ ap (λ (a : ℕ). take (start_of xs (suc k) - a) (drop a xs)) (first_there xs k h)
      | no h ↦
          let e : start_of xs (suc k) - first_of xs k ≡ 0 = omega (arith, first_none xs k h, ends xs k h) in
          let z : start_of xs (suc k) - (start_of xs k + 1) ≡ 0 = omega arith in
          rw (e, z)
    ]

-- what stands behind the list
behind : (xs : List ℕ) (k : ℕ) → start_of xs k + 1 ≤ start_of xs (suc k) → drop (start_of xs (suc k) - (start_of xs k + 1)) (drop (start_of xs k + 1) xs) ≡ drop (start_of xs (suc k)) xs
behind xs k h =
    let e : (start_of xs k + 1) + (start_of xs (suc k) - (start_of xs k + 1)) ≡ start_of xs (suc k) = omega arith in
    drop-drop (start_of xs (suc k) - (start_of xs k + 1)) (start_of xs k + 1) xs ∙ ap (λ (n : ℕ). drop n xs) e

there : (xs : List ℕ) (k : ℕ) (ys : List ℕ) → start_of xs k + 1 ≤ start_of xs (suc k) → put_at xs k ys
    ≡ take (start_of xs k + 1) xs ++ (laid_over (list_of xs k) ys ++ drop (start_of xs (suc k) - (start_of xs k + 1)) (drop (start_of xs k + 1) xs))
there xs k ys h =
    ap (λ (a : ℕ). take a xs ++ (laid_over (list_of xs k) ys ++ drop (start_of xs (suc k)) xs)) (first_there xs k h)
    ∙ ap (λ (z : List ℕ). take (start_of xs k + 1) xs ++ (laid_over (list_of xs k) ys ++ z)) (sym (behind xs k h))

none : (xs : List ℕ) (k : ℕ) (ys : List ℕ) → (start_of xs k + 1 ≤ start_of xs (suc k) → ⊥) → put_at xs k ys
    ≡ take (start_of xs k + 1) xs ++ (laid_over (list_of xs k) ys ++ drop (start_of xs (suc k) - (start_of xs k + 1)) (drop (start_of xs k + 1) xs))
none xs k ys h =
    let e = ends xs k h in
    let f = first_none xs k h in
    let front : take (first_of xs k) xs ≡ take (start_of xs k + 1) xs = take_all _ xs (omega (arith, f)) ∙ sym (take_all _ xs (omega (arith, e))) in
    let z : start_of xs (suc k) - (start_of xs k + 1) ≡ 0 = omega arith in
    let rear : drop (start_of xs (suc k)) xs ≡ drop (start_of xs (suc k) - (start_of xs k + 1)) (drop (start_of xs k + 1) xs) =
    drop_of_length-le xs (omega (arith, e))
    ∙ sym (ap (λ (n : ℕ). drop n (drop (start_of xs k + 1) xs)) z ∙ drop_of_length-le xs (omega (arith, e))) in
    ap (λ (a : List ℕ). a ++ (laid_over (list_of xs k) ys ++ drop (start_of xs (suc k)) xs)) front
    ∙ ap (λ (b : List ℕ). take (start_of xs k + 1) xs ++ (laid_over (list_of xs k) ys ++ b)) rear

pub put_at_is : (xs : List ℕ) (k : ℕ) (ys : List ℕ) → put_at xs k ys
    ≡ take (start_of xs k + 1) xs ++ (laid_over (list_of xs k) ys ++ drop (start_of xs (suc k) - (start_of xs k + 1)) (drop (start_of xs k + 1) xs))
put_at_is xs k ys =
    elim (dec_le (start_of xs k + 1) (start_of xs (suc k))) [
      | yes h ↦ there xs k ys h
      | no h ↦ none xs k ys h
    ]
