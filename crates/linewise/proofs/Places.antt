-- The text at a place, by the byte that stands there: bytes compared one by one, spaces, the first of a kind of byte, the rest of a line.
use Prim.Native.Nat.{ℕ, zero, suc, ◌+◌, ◌-◌, ◌≤◌, ◌<◌, min}
use native.Mathlib.Numerals.{add-one}
use native.Mathlib.Omega.{arith}
use mathlib.Core.Path.{◌≡◌, refl, ap, ◌∙◌}
use mathlib.Core.Bool.{Bool, true, false, cond, not, ◌&&◌}
use mathlib.Core.Logic.{◌⊎◌, inl, inr}
use mathlib.Core.List.{List, [], ◌∷◌, ◌++◌}
use lib.Dec.{eqb, eqb-zero-suc, eqb-suc-zero, eqb-suc-suc}
use lib.Pointwise.{pointwise}
use Rattle.std.proofs.lemmas.Bool.{cases_lt}
use lib.ListN.{length, take, drop, length-append, length-drop, drop_of_length-le}
use Rattle.std.proofs.lemmas.List.{drop-take}
use lib.Seq.{drop-cons, drop-drop, drop-length, take_all, take-append_seam, length-take-le, slice}
use Rattle.lists.specs.Lists.{◌!◌}
use Rattle.scanner.specs.Scan.{from_first}
use Rattle.scanner.proofs.First.{first_stops}
use Rattle.lists.specs.Tests.{both}
use Rattle.headings.specs.Lines.{line, behind}
use Rattle.headings.specs.Headings.{starts_with, unspaced}
use Rattle.linewise.specs.Says.{LineTo}

-- ---- bytes compared

eqb_sym : (a b : ℕ) → eqb a b ≡ eqb b a
eqb_sym zero zero = refl
eqb_sym zero (suc b) = rw (eqb-zero-suc b, eqb-suc-zero b)
eqb_sym (suc a) zero = rw (eqb-zero-suc a, eqb-suc-zero a)
eqb_sym (suc a) (suc b) = rw (eqb-suc-suc a b, eqb-suc-suc b a) (eqb_sym a b)

-- std's test is the same
starts_is : (word s : List ℕ) → pointwise eqb word (take (length word) s) ≡ starts_with word s
unfolding starts_with
starts_is [] s = refl
starts_is (w ∷ ws) [] = refl
starts_is (w ∷ ws) (b ∷ s) = rw (eqb_sym w b, starts_is ws s) (go (eqb b w) (starts_with ws s))
  where
    go : (t u : Bool) → t && u ≡ both t u
    go true u = refl
    go false u = refl

-- behind the end no bytes stand, as at the end
drop_least : (s : List ℕ) (at : ℕ) → drop (min at (length s)) s ≡ drop at s
drop_least s at = go (cases_lt at (length s))
  where
    go : (at < length s) ⊎ (length s ≤ at) → drop (min at (length s)) s ≡ drop at s
    go (inl h) = let e : min at (length s) ≡ at = omega arith in rw e
    go (inr h) = let e : min at (length s) ≡ length s = omega arith in rw (e, drop-length s, drop_of_length-le s h)

-- std's test of the part up to the end
pub starts_part : (word s : List ℕ) (at k : ℕ) → k ≡ min at (length s)
    → pointwise eqb word (take (length word) (take (length s - k) (drop k s))) ≡ starts_with word (drop at s)
starts_part word s at k e = rw (take_all (length s - k) (drop k s) (omega (arith, length-drop k s)), e, drop_least s at) (starts_is word (drop at s))

-- ---- the first byte of a kind

unspaced_is : (s : List ℕ) → from_first (λ b. not (eqb b 32)) s ≡ unspaced s
unfolding from_first unspaced
unspaced_is [] = refl
unspaced_is (b ∷ s) = go (eqb b 32) (unspaced_is s)
  where
    go : (t : Bool) → from_first (λ c. not (eqb c 32)) s ≡ unspaced s → cond (not t) (b ∷ s) (from_first (λ c. not (eqb c 32)) s) ≡ cond t (unspaced s) (b ∷ s)
    go true e = e
    go false e = refl

pub unspaced_to : (s : List ℕ) (at to : ℕ) → drop to s ≡ from_first (λ b. not (eqb b 32)) (drop at s) → drop to s ≡ unspaced (drop at s)
unspaced_to s at to e = e ∙ unspaced_is (drop at s)

module _ (b : ℕ) where
  behind_first : (s : List ℕ) → behind b s ≡ behind b (from_first (λ c. eqb c b) s)
  unfolding from_first behind
  behind_first [] = refl
  behind_first (a ∷ s) = go (eqb a b) refl (behind_first s)
    where
      go : (t : Bool) → eqb a b ≡ t → behind b s ≡ behind b (from_first (λ c. eqb c b) s) → cond t s (behind b s) ≡ behind b (cond t (a ∷ s) (from_first (λ c. eqb c b) s))
      go true q e = rw q
      go false q e = e

  module _ (s : List ℕ) (at to : ℕ) (e : drop to s ≡ from_first (λ c. eqb c b) (drop at s)) where
    pub behind_found : to < length s → drop (to + 1) s ≡ behind b (drop at s)
    unfolding behind
    behind_found h =
        let q : eqb (s ! to) b ≡ true = first_stops (λ c. eqb c b) s at to e h in
        rw (behind_first (drop at s), ← e, drop-cons s to 0 h, q, add-one)

    pub behind_missed : length s ≤ to → drop to s ≡ behind b (drop at s)
    unfolding behind
    behind_missed h = rw (behind_first (drop at s), ← e, drop_of_length-le s h)

-- ---- the rest of a line

line_first : (s : List ℕ) → s ≡ line s ++ from_first (λ b. eqb b 10) s
unfolding from_first line
line_first [] = refl
line_first (b ∷ s) = go (eqb b 10) (line_first s)
  where
    go : (t : Bool) → s ≡ line s ++ from_first (λ c. eqb c 10) s → b ∷ s ≡ cond t [] (b ∷ line s) ++ cond t (b ∷ s) (from_first (λ c. eqb c 10) s)
    go true e = refl
    go false e = ap (λ r. b ∷ r) e

line_taken : (s : List ℕ) (n : ℕ) → n ≤ length s → drop n s ≡ from_first (λ b. eqb b 10) s → take n s ≡ line s
line_taken s n h e =
    let f = from_first (λ b. eqb b 10) s in
    let q : s ≡ line s ++ f = line_first s in
    let l : n ≡ length (line s) = omega (arith, h, ap length q, length-append (line s) f, ap length e, length-drop n s) in
    rw l (ap (λ t. take (length (line s)) t) q ∙ take-append_seam (line s) f)

line_part : (s : List ℕ) (at m : ℕ) → at + m ≤ length s → drop (at + m) s ≡ from_first (λ b. eqb b 10) (drop at s) → slice at (at + m) s ≡ line (drop at s)
line_part s at m h e = drop-take at m s ∙ line_taken (drop at s) m (omega (arith, h, length-drop at s)) (drop-drop m at s ∙ e)

pub line_to : (s : List ℕ) (at to : ℕ) → to ≤ length s → (at ≤ length s → at ≤ to) → drop to s ≡ from_first (λ b. eqb b 10) (drop at s) → LineTo s at to
unfolding line
line_to s at to k h e = record { from = h; inside = k; same = go (cases_lt (length s) at) }
  where
    go : (length s < at) ⊎ (at ≤ length s) → slice at to s ≡ line (drop at s)
    go (inl b) =
        let over : length (take to s) ≤ at = omega (arith, length-take-le to s k) in
        let past : length s ≤ at = omega arith in
        rw (drop_of_length-le (take to s) over, drop_of_length-le s past)
    go (inr b) =
        let z : at + (to - at) ≡ to = omega (arith, h b) in
        rw z at (line_part s at (to - at) (rw z k) (rw z e))
