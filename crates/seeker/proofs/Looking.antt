-- What is known while headings are looked for line by line, and what each line does to it.
use Prim.Native.Nat.{ℕ, suc, ◌+◌, ◌≤◌, ◌<◌}
use native.Mathlib.Numerals.{add-one}
use native.Mathlib.Omega.{arith}
use native.Mathlib.Decide.{ℕ_discrete}
use mathlib.Core.Path.{◌≡◌, refl, ap, ◌∙◌}
use mathlib.Core.Bool.{Bool, true, false}
use mathlib.Core.List.{List, [], ◌∷◌}
use lib.Dec.{eqb}
use lib.ListN.{length, drop, set, length-set, drop_of_length-le}
use lib.Seq.{get_or-set_same, get_or-set_other}
use borrow.Author.Tests.{eqb-true, eq-eqb, ne_eqb}
use Rattle.std.specs.Bool.{then_some}
use Rattle.lists.specs.Lists.{◌!◌}
use Rattle.headings.specs.Lines.{next_line}
use Rattle.headings.specs.Headings.{headings, line_mark, marks, in_order, section}
use Rattle.seeker.specs.Found.{FindSays}
use Rattle.headings.proofs.Marks.{marks_none, marks_split}

-- in front of a line at `at`: the lines left decide whether all headings are in order, and those found start where `places` says
pub record Looking (s : List ℕ) (at found : ℕ) (places : List ℕ) : Type 0 where
  pub size : length places ≡ length headings
  pub test : in_order 0 (marks s) ≡ in_order found (marks (drop at s))
  pub kept : (k : ℕ) → k < found → section k (marks s) ≡ drop (places ! k) s
  pub later : (j : ℕ) → section (found + j) (marks s) ≡ section j (marks (drop at s))

module _ (s : List ℕ) (at found : ℕ) (places : List ℕ) (l : Looking s at found places) where
  -- the line has no heading
  pub looking_none : (to : ℕ) → line_mark (drop at s) ≡ [] → drop to s ≡ next_line (drop at s) → Looking s to found places
  looking_none to e q =
      let m : marks (drop at s) ≡ marks (drop to s) = marks_split (drop at s) ∙ rw (e, q) in
      record { size = l.size; test = l.test ∙ ap (in_order found) m; kept = l.kept; later = λ j. l.later j ∙ ap (section j) m }

  module _ (which p : ℕ) (e : line_mark (drop at s) ≡ record { which = which; from = drop p s } ∷ []) where
    -- it has another one than the next
    pub looking_other : (which ≡ found → ⊥) → in_order 0 (marks s) ≡ false
    unfolding in_order
    looking_other h = l.test ∙ rw (marks_split (drop at s), e, ne_eqb _ _ h)

    -- it has the next one
    pub looking_next : (to put : ℕ) → put ≡ p → which ≡ found → which < length headings → drop to s ≡ next_line (drop at s) → Looking s to (found + 1) (set places which put)
    unfolding in_order section
    looking_next to put g h b q = record {
      size = length-set places which put ∙ l.size;
      test = l.test ∙ rw (add-one, with_it, eq-eqb _ _ h);
      kept = placed;
      later = λ j. let z : found + 1 + j ≡ found + suc j = omega arith in rw z (l.later (suc j) ∙ rw with_it);
    }
      where
        with_it : marks (drop at s) ≡ record { which = which; from = drop p s } ∷ marks (drop to s)
        with_it = marks_split (drop at s) ∙ rw (e, q)

        placed : (k : ℕ) → k < found + 1 → section k (marks s) ≡ drop (set places which put ! k) s
        placed k i = elim (ℕ_discrete k which) [
          | yes d ↦
              let z : k ≡ found + 0 = omega arith in
              let o : which < length places = omega (arith, l.size) in
              rw (d, get_or-set_same places which put 0 o, g, ← d, z) (l.later 0 ∙ rw with_it)
          | no d ↦ rw (get_or-set_other places which k put 0 d) (l.kept k (omega arith))
        ]

  -- no line is left
  pub looking_end : length s ≤ at → FindSays s (then_some (eqb found (length headings)) places)
  unfolding in_order
  looking_end h = go (eqb found (length headings)) refl
    where
      over : in_order 0 (marks s) ≡ eqb found (length headings)
      over = l.test ∙ rw (drop_of_length-le s h, marks_none)

      go : (t : Bool) → eqb found (length headings) ≡ t → FindSays s (then_some t places)
      go true e = let f : found ≡ length headings = eqb-true _ _ e in (over ∙ e, (λ k b. l.kept k (omega arith)), l.size)
      go false e = over ∙ e
