-- The lines of a text, number by number and job by job, as the code puts them.
use Prim.Native.Nat.{ℕ, zero, suc, ◌+◌, ◌≤◌, ◌<◌}
use native.Mathlib.Numerals.{add-one}
use native.Mathlib.Omega.{arith}
use mathlib.Core.Path.{◌≡◌, refl, sym, ap, ◌∙◌}
use mathlib.Core.Bool.{Bool, true, false, cond}
use mathlib.Core.List.{List, [], ◌∷◌, ◌++◌, map, append_assoc, append-nil}
use lib.Dec.{ltb}
use lib.ListN.{length, drop, drop_of_length-le}
use lib.Seq.{slice, drop-nil, drop-cons}
use borrow.Author.Tests.{ltb-true, ltb-false, eq-eqb, ne_eqb}
use Rattle.lists.specs.Lists.{◌!◌}
use Rattle.chains.specs.Listed.{paired}
use Rattle.projects.specs.Form.{decimal, line_of}
use Rattle.projects.specs.Made.{successors_of}
use Rattle.scribe.specs.Says.{Marked, rest_of}
use Rattle.scribe.proofs.Puts.{Parts}

-- ---- a number

-- the same number and the same byte behind it
pub number_same : {v w a b : ℕ} → v ≡ w → a ≡ b → decimal v ++ a ∷ [] ≡ decimal w ++ b ∷ []
number_same p q = rw (p, q)

pub byte_same : {a b m : ℕ} (i to : ℕ) → Marked a b m → a ≡ i → b ≡ to → m ≡ cond (ltb i to) 32 10
byte_same i to h p q = h.byte ∙ rw (p, q)

-- the same duration and demand
pub job_same : {d d' q q' : ℕ} (ns : List ℕ) → d' ≡ d → q' ≡ q → line_of (d' ∷ q' ∷ ns) ≡ line_of (d ∷ q ∷ ns)
job_same ns x y = rw (x, y)

-- the byte behind a number, by the numbers that are left on the line
abbrev pub mark : List ℕ → ℕ
mark [] = 10
mark (v ∷ vs) = 32

pub line_step : (v : ℕ) (vs : List ℕ) → line_of (v ∷ vs) ≡ (decimal v ++ mark vs ∷ []) ++ rest_of vs
unfolding line_of
line_step v [] = sym (append-nil (decimal v ++ 10 ∷ []))
line_step v (w ∷ vs) = sym (append_assoc (decimal v) (32 ∷ []) (line_of (w ∷ vs)))

-- ---- a successor

-- the numbers on the line from place i on
abbrev pub numbered : List ℕ → ℕ → List ℕ
numbered own i = map suc (drop i own)

module _ (own : List ℕ) (i : ℕ) where
  pub numbered_none : length own ≤ i → numbered own i ≡ []
  numbered_none h = rw (drop_of_length-le own h)

  numbered_step : i < length own → numbered own i ≡ (own ! i + 1) ∷ numbered own (i + 1)
  numbered_step h = rw (drop-cons own i 0 h, add-one (own ! i), add-one i)

  mark-is : mark (numbered own i) ≡ cond (ltb i (length own)) 32 10
  mark-is = go (ltb i (length own)) refl
    where
      go : (t : Bool) → ltb i (length own) ≡ t → mark (numbered own i) ≡ cond t 32 10
      go true e = rw (numbered_step (ltb-true i (length own) e))
      go false e = rw (numbered_none (ltb-false i (length own) e))

pub successors_step : (own : List ℕ) (i : ℕ) → i < length own
    → rest_of (numbered own i) ≡ (decimal (own ! i + 1) ++ cond (ltb (i + 1) (length own)) 32 10 ∷ []) ++ rest_of (numbered own (i + 1))
successors_step own i h = rw (numbered_step own i h, ← mark-is own (i + 1)) (line_step (own ! i + 1) (numbered own (i + 1)))

-- ---- a job

-- the successors of job j, where the pairs before place i are of lower jobs, those up to place r of j, and all behind of higher ones
pub stretch_of : (j : ℕ) (js ss : List ℕ) (i r : ℕ) → length js ≡ length ss → i ≤ r → ((k : ℕ) → k < i → k < length js → js ! k < j)
    → ((k : ℕ) → i ≤ k → k < r → js ! k ≡ j) → ((k : ℕ) → r ≤ k → k < length js → j < js ! k) → successors_of j (paired js ss) ≡ slice i r ss
unfolding successors_of
stretch_of j [] [] i r e o low same high = rw (none i r)
  where
    none : (i r : ℕ) → ◌≡◌ {A = List ℕ} (slice i r []) []
    none i zero = drop-nil i
    none i (suc r) = drop-nil i
stretch_of j [] (s ∷ ss) i r e o low same high = absurd (omega arith)
stretch_of j (a ∷ js) [] i r e o low same high = absurd (omega arith)
stretch_of j (a ∷ js) (s ∷ ss) (suc i) zero e o low same high = absurd (omega arith)
stretch_of j (a ∷ js) (s ∷ ss) (suc i) (suc r) e o low same high =
    rw (ne_eqb a j (λ q. omega (arith, low 0 (omega arith) (omega arith))))
    (stretch_of j js ss i r (omega arith) (omega arith) (λ k l m. low (suc k) (omega arith) (omega arith)) (λ k l m. same (suc k) (omega arith) (omega arith)) (λ k l m. high (suc k) (omega arith) (omega arith)))
stretch_of j (a ∷ js) (s ∷ ss) zero (suc r) e o low same high =
    rw (eq-eqb a j (same 0 (omega arith) (omega arith)))
    (ap (λ (xs : List ℕ). s ∷ xs) (stretch_of j js ss 0 r (omega arith) (omega arith) (λ k l m. absurd (omega arith)) (λ k l m. same (suc k) (omega arith) (omega arith)) (λ k l m. high (suc k) (omega arith) (omega arith))))
stretch_of j (a ∷ js) (s ∷ ss) zero zero e o low same high =
    rw (ne_eqb a j (λ q. omega (arith, high 0 (omega arith) (omega arith))))
    (stretch_of j js ss 0 0 (omega arith) (omega arith) (λ k l m. absurd (omega arith)) (λ k l m. absurd (omega arith)) (λ k l m. high (suc k) (omega arith) (omega arith)))

-- the line of a job: duration, demand, how many successors, and these
pub job_parts : (d q : ℕ) (own : List ℕ)
    → Parts (decimal d ++ 32 ∷ []) (decimal q ++ 32 ∷ []) (decimal (length own) ++ cond (ltb 0 (length own)) 32 10 ∷ []) (rest_of (map suc own)) (line_of (d ∷ q ∷ length own ∷ map suc own))
job_parts d q own =
    record {
      joined =
          line_step d (q ∷ length own ∷ map suc own)
          ∙ ap (λ (t : List ℕ). (decimal d ++ 32 ∷ []) ++ t)
          (line_step q (length own ∷ map suc own)
          ∙ ap (λ (t : List ℕ). (decimal q ++ 32 ∷ []) ++ t)
          (line_step (length own) (map suc own) ∙ ap (λ (m : ℕ). (decimal (length own) ++ m ∷ []) ++ rest_of (map suc own)) (mark-is own 0)));
    }
