-- What the definitions say, in facts: which headings make the test of their order pass (document 02, Item 13: 35 where it does not), and the limit and the
-- refusals of a number behind a colon.
use Prim.Native.Nat.{ℕ, zero, suc, ◌+◌, ◌≤◌}
use native.Mathlib.Omega.{arith}
use mathlib.Core.Path.{◌≡◌, refl, ap, ◌∙◌}
use mathlib.Core.Bool.{true}
use mathlib.Core.List.{List, [], ◌∷◌, map}
use mathlib.Core.Logic.{◌⊎◌, ◌↔◌}
use lib.Dec.{eqb}
use lib.ListN.{length}
use borrow.Author.Tests.{eqb-true, eq-eqb}
use Rattle.lists.proofs.Tests.{both_true, true_both}
use Rattle.texts.specs.Tokens.{Token, tokens}
use Rattle.texts.specs.Readings.{bad, good}
use Rattle.texts.proofs.Readings.{one_takes, one_codes}
use Rattle.texts.proofs.Exactly.{OneRefused, one_refused}
use Rattle.headings.specs.Lines.{line, behind, counted}
use Rattle.headings.specs.Headings.{headings, Mark, marks, in_order}

-- ---- headings in order

-- d numbers from k on
abbrev numbers : ℕ → ℕ → List ℕ
numbers k zero = []
numbers k (suc d) = k ∷ numbers (suc k) d

order_to : (k : ℕ) (ms : List Mark) → in_order k ms ≡ true → (d : ℕ) × (k + d ≡ length headings) × (map (λ m. m.which) ms ≡ numbers k d)
unfolding in_order
order_to k [] e = (0, omega (arith, eqb-true k (length headings) e), refl)
order_to k (m ∷ ms) e =
    let q = both_true (eqb m.which k) (in_order (suc k) ms) e in
    let r = order_to (suc k) ms q.1 in
    let z : m.which ≡ k = eqb-true _ _ q.0 in
    (suc r.0, omega (arith, r.1), ap (λ (x : ℕ). x ∷ map (λ n. n.which) ms) z ∙ ap (λ (xs : List ℕ). k ∷ xs) r.2)

order_from : (k d : ℕ) (ms : List Mark) → k + d ≡ length headings → map (λ m. m.which) ms ≡ numbers k d → in_order k ms ≡ true
unfolding in_order
order_from k zero [] h e = eq-eqb k (length headings) (omega arith)
order_from k (suc d) [] h e = let z : ◌≡◌ {A = ℕ} 0 1 = cc in absurd (omega arith)
order_from k zero (m ∷ ms) h e = let z : ◌≡◌ {A = ℕ} 0 1 = cc in absurd (omega arith)
order_from k (suc d) (m ∷ ms) h e =
    true_both (eqb m.which k) (in_order (suc k) ms) (eq-eqb m.which k cc) (order_from (suc k) d ms (omega arith) cc)

-- the headings of all lines are the five, each once and in order
pub in_order_which : (s : List ℕ) → (in_order 0 (marks s) ≡ true) ↔ (map (λ m. m.which) (marks s) ≡ 0 ∷ 1 ∷ 2 ∷ 3 ∷ 4 ∷ [])
in_order_which s = (to, order_from 0 5 (marks s) (omega arith))
  where
    to : in_order 0 (marks s) ≡ true → map (λ m. m.which) (marks s) ≡ 0 ∷ 1 ∷ 2 ∷ 3 ∷ 4 ∷ []
    to e =
        let q = order_to 0 (marks s) e in
        let d : q.0 ≡ 5 = omega (arith, q.1) in
        rw (q.2, d)

-- ---- the number behind a colon

module _ (top : ℕ) (s : List ℕ) where
  pub counted_codes : (c : ℕ) → counted top s ≡ bad c → (c ≡ 30) ⊎ (c ≡ 31)
  unfolding counted
  counted_codes c e = one_codes top 31 c (tokens (behind 58 (line s))) e

  pub counted_takes : (v : ℕ) (rest : List Token) → counted top s ≡ good v rest → v ≤ top
  unfolding counted
  counted_takes v rest e = (one_takes top 31 v (tokens (behind 58 (line s))) rest e).1

  -- 30 where no number stands there, 31 where it is above the limit
  pub counted_refused : (c : ℕ) → (counted top s ≡ bad c) ↔ OneRefused top 31 c (tokens (behind 58 (line s)))
  unfolding counted
  counted_refused c = one_refused top 31 c (tokens (behind 58 (line s)))
