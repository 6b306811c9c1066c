-- Laws over the contract of a call without a log, over any rules: two results are equal, and `exactly` makes them so; each
-- answer has the numbers that it has, exactly where it is given; the same jobs in another order get the same refusal, the same windows or a clash again;
-- settled windows settle with no move.
use Prim.Native.Nat.{ℕ, ◌≤◌}
use native.Mathlib.Omega.{arith}
use mathlib.Core.Path.{◌≡◌, refl, sym, ap, subst, ◌∙◌}
use mathlib.Core.List.{List, [], ◌∷◌}
use mathlib.Core.Logic.{◌⊎◌, inl, inr, ◌↔◌}
use lib.ListN.{length}
use Rattle.lists.specs.Permutations.{Permutes}
use Rattle.narrowing.specs.Windows.{win, early}
use Rattle.narrowing.specs.Rules.{Stable}
use Rattle.narrowing.specs.Search.{Move}
use Rattle.narrowing.specs.Rounds.{Chosen}
use Rattle.narrowing.specs.Led.{Clashed}
use Rattle.narrowing.specs.Run.{reached_by}
use Rattle.narrowing.specs.Renumbered.{SameWin}
use Rattle.narrowing.proofs.Chosen.{chosen_one, clash_one}
use Rattle.answers.specs.declared.Answer.{Answer}
use Rattle.answers.specs.Said.{Word, Said, said, says}
use Rattle.answers.proofs.Same.{says_same}
use Rattle.joblist.specs.GoodList.{Given}
use Rattle.promises.specs.Ask.{Ask, job_count, columns, Good, TooShort}
use Rattle.promises.specs.Promise.{LargestIn, needs}
use Rattle.promises.specs.Plain.{task_of, Left, left, unnumbered, numberless}
use Rattle.promises.specs.Counted.{ExactlyCounts, Counts}
use Rattle.promises.specs.Reordered.{SameAsk, Anew}
use Rattle.promises.proofs.TooShort.{too_short_none, too_short_needs}
use Rattle.promises.proofs.Reordered.{plain_refused_there, plain_settled_there, plain_clash_there}
use Rattle.promises.proofs.Again.{plain_again_says}
use Rattle.promises.proofs.Plain.{good_or_refused, plain_firm}

-- ---- an answer without its numbers: the word stays, and so does a refusal

pub word_stays : (w : Word) (ns : List ℕ) → (unnumbered (said w ns)).word ≡ w
word_stays Word.settled ns = refl
word_stays Word.clash ns = refl
word_stays Word.refused ns = refl
word_stays Word.holds ns = refl
word_stays Word.rejected ns = refl
word_stays Word.none ns = refl
word_stays Word.overload ns = refl
word_stays Word.read ns = refl
word_stays Word.written ns = refl
word_stays Word.marked ns = refl

refusal_stays : (x : Said) (k : ℕ) → unnumbered x ≡ said Word.refused (k ∷ []) → x ≡ said Word.refused (k ∷ [])
refusal_stays x k e =
    let q : x.word ≡ Word.refused = sym (word_stays x.word x.numbers) ∙ ap (λ (y : Said). y.word) e in
    subst (λ (w : Word). unnumbered (said w x.numbers) ≡ said Word.refused (k ∷ []) → said w x.numbers ≡ said Word.refused (k ∷ [])) (sym q) (λ z. z) e

without : (x y : Said) → x ≡ y → unnumbered x ≡ unnumbered y
without x y e = ap (λ (z : Said). unnumbered z) e

word_of : (x y : Said) → x ≡ y → x.word ≡ y.word
word_of x y e = ap (λ (z : Said). z.word) e

-- ---- results are equal

pub counts_same : (A : Ask) (a b : Left) → Counts A a → Counts A b → a ≡ b
counts_same A a b f g = f.answered ∙ sym g.answered

pub counts_results_same : (A : Ask) (r q : Answer) (e l e' l' : List ℕ) → Counts A (left (says r) (win e l)) → Counts A (left (says q) (win e' l'))
    → (r ≡ q) × (e ≡ e') × (l ≡ l')
counts_results_same A r q e l e' l' f g =
    let h = counts_same A _ _ f g in
    (says_same r q (ap (λ (x : Left). x.says) h), ap (λ (x : Left). x.win.e) h, ap (λ (x : Left). x.win.l) h)

-- ---- the rows

module _ (A : Ask) (a : Left) (h : Counts A a) where
  pub counts_refused : (k : ℕ) → (a.says ≡ said Word.refused (k ∷ [])) ↔ ((1 ≤ k) × Given k (job_count A) (columns A) A.alone)
  counts_refused k = (λ e. (h.exactly.plain.refused k).0 (without _ _ e), λ y. refusal_stays a.says k ((h.exactly.plain.refused k).1 y))

  -- what is settled but for its numbers has the number of moves needed, and leaves the largest windows; a clash has that number and a job
  settled_number : (unnumbered a.says).word ≡ Word.settled → a.says ≡ said Word.settled (needs A ∷ [])
  settled_number e = let y = h.exactly.plain.settled e in (h.exactly.settled (needs A)).1 (y.0, refl, (a.win, y.1.one))

  clash_number : (unnumbered a.says).word ≡ Word.clash → (j : ℕ) × (a.says ≡ said Word.clash (needs A ∷ j ∷ []))
  clash_number e = let y = h.exactly.plain.clash e in (h.exactly.clash (needs A)).1 (y.0, refl, y.1)

  pub counts_settled : a.says.word ≡ Word.settled → (a.says ≡ said Word.settled (needs A ∷ [])) × LargestIn A a.win
  counts_settled e = let z = word_stays a.says.word a.says.numbers ∙ e in (settled_number z, (h.exactly.plain.settled z).1)

  pub counts_clash : a.says.word ≡ Word.clash → (j : ℕ) × (a.says ≡ said Word.clash (needs A ∷ j ∷ []))
  counts_clash e = clash_number (word_stays a.says.word a.says.numbers ∙ e)

  -- a good list is decided
  pub counts_decided : Good A → (a.says ≡ said Word.settled (needs A ∷ [])) ⊎ ((j : ℕ) × (a.says ≡ said Word.clash (needs A ∷ j ∷ [])))
  counts_decided g = go (h.exactly.plain.decided g)
    where
      go : (unnumbered a.says ≡ said Word.settled []) ⊎ (unnumbered a.says ≡ said Word.clash [])
          → (a.says ≡ said Word.settled (needs A ∷ [])) ⊎ ((j : ℕ) × (a.says ≡ said Word.clash (needs A ∷ j ∷ [])))
      go (inl e) = inl (settled_number (word_of _ _ e))
      go (inr e) = inr (clash_number (word_of _ _ e))

  -- a clash with no move is given exactly where a window is too short, of the lowest such job (document 02, Item 3)
  row_too_short : (j : ℕ) → a.says ≡ said Word.clash (0 ∷ j ∷ []) → TooShort A j
  row_too_short j e = let m = h.exactly.moves.clash 0 j e in go m.moves m.many m.ends
    where
      go : (ms : List Move) → length ms ≡ 0 → Clashed A.search A.win ms j → TooShort A j
      go [] q x = x
      go (y ∷ ms) q x = absurd (omega arith)

  pub counts_too_short : (j : ℕ) → (a.says ≡ said Word.clash (0 ∷ j ∷ [])) ↔ (Good A × TooShort A j)
  counts_too_short j = (λ e. (((h.exactly.clash 0).0 (j, e)).0, row_too_short j e), λ y. back y.0 y.1)
    where
      back : Good A → TooShort A j → a.says ≡ said Word.clash (0 ∷ j ∷ [])
      back g s =
          let c = (h.exactly.clash 0).1 (g, sym (too_short_needs A j s), too_short_none A j s.listed s.shorter) in
          c.1 ∙ ap (λ (i : ℕ). said Word.clash (0 ∷ i ∷ [])) (clash_one A.search A.win [] c.0 j (row_too_short c.0 c.1) s)

-- ---- `exactly` determines the answer and the windows

module _ (A : Ask) (a : Left) (f : ExactlyCounts A a) where
  pub counts_firm : (b : Left) → Counts A b → a ≡ b
  counts_firm b h =
      ap (λ (x : Said). left x a.win) same_says
      ∙ ap (λ (e : List ℕ). left b.says (win e a.win.l)) w.1
      ∙ ap (λ (l : List ℕ). left b.says (win b.win.e l)) w.2
    where
      w : (unnumbered a.says ≡ unnumbered b.says) × (a.win.e ≡ b.win.e) × (a.win.l ≡ b.win.l)
      w = plain_firm (task_of A) (numberless a) (numberless b) f.plain h.exactly.plain

      clashes : (n i j : ℕ) → a.says ≡ said Word.clash (n ∷ i ∷ []) → b.says ≡ said Word.clash (n ∷ j ∷ []) → i ≡ j
      clashes n i j p q =
          let x = f.moves.clash n i p in
          let y = h.exactly.moves.clash n j q in
          let z = chosen_one A.search A.rules x.moves y.moves A.win 0 early x.chosen y.chosen (x.many ∙ sym y.many) in
          clash_one A.search A.win y.moves i j (subst (λ (ms : List Move). Clashed A.search A.win ms i) z x.ends) y.ends

      by_good : (b.says ≡ said Word.settled (needs A ∷ [])) ⊎ ((j : ℕ) × (b.says ≡ said Word.clash (needs A ∷ j ∷ []))) → a.says ≡ b.says
      by_good (inl q) = (f.settled (needs A)).1 ((h.exactly.settled (needs A)).0 q) ∙ sym q
      by_good (inr (j, q)) =
          let p = (f.clash (needs A)).1 ((h.exactly.clash (needs A)).0 (j, q)) in
          p.1 ∙ ap (λ (i : ℕ). said Word.clash (needs A ∷ i ∷ [])) (clashes (needs A) p.0 j p.1 q) ∙ sym q

      go : Good A ⊎ ((k : ℕ) × (1 ≤ k) × Given k (job_count A) (columns A) A.alone) → a.says ≡ b.says
      go (inl g) = by_good (counts_decided A b h g)
      go (inr (k, i, y)) = refusal_stays a.says k ((f.plain.refused k).1 (i, y)) ∙ sym ((counts_refused A b h k).1 (i, y))

      same_says : a.says ≡ b.says
      same_says = go (good_or_refused (task_of A))

-- ---- another order of the jobs

module _ (π σ : ℕ → ℕ) (A B : Ask) (t : Permutes (job_count A) π σ) (s : SameAsk π σ A B) (a b : Left) (f : Counts A a) (g : Counts B b) where
  pub counts_refused_there : (k : ℕ) → a.says ≡ said Word.refused (k ∷ []) → b.says ≡ said Word.refused (k ∷ [])
  counts_refused_there k e =
      refusal_stays b.says k (plain_refused_there π σ (task_of A) (task_of B) t s (numberless a) (numberless b) f.exactly.plain g.exactly.plain k (without _ _ e))

  -- the number of moves may be another
  pub counts_settled_there : (n : ℕ) → a.says ≡ said Word.settled (n ∷ [])
      → (m : ℕ) × (b.says ≡ said Word.settled (m ∷ [])) × SameWin (job_count A) π a.win b.win
  counts_settled_there n e =
      let y = plain_settled_there π σ (task_of A) (task_of B) t s (numberless a) (numberless b) f.exactly.plain g.exactly.plain (without _ _ e) in
      (needs B, settled_number B b g (word_of _ _ y.0), y.1)

  pub counts_clash_there : (n i : ℕ) → a.says ≡ said Word.clash (n ∷ i ∷ []) → (m : ℕ) × (j : ℕ) × (b.says ≡ said Word.clash (m ∷ j ∷ []))
  counts_clash_there n i e =
      let y = plain_clash_there π σ (task_of A) (task_of B) t s (numberless a) (numberless b) f.exactly.plain g.exactly.plain (without _ _ e) in
      let x = clash_number B b g (word_of _ _ y) in (needs B, x.0, x.1)

-- ---- the windows left, asked again

module _ (A : Ask) (a : Left) (h : Counts A a) (n : ℕ) (e : a.says ≡ said Word.settled (n ∷ [])) (B : Ask) (w : Anew (task_of A) a.win (task_of B)) (b : Left)
    (k : Counts B b) where
  again_says : b.says ≡ said Word.settled (needs B ∷ [])
  again_says = settled_number B b k (word_of _ _ (plain_again_says (task_of A) (numberless a) h.exactly.plain (without _ _ e) (task_of B) w (numberless b) k.exactly.plain))

  -- no rule applies, so no move was made
  unmoved : (ms : List Move) → Chosen B.search B.rules B.win 0 early ms → ms ≡ []
  unfolding Stable
  unmoved [] c = refl
  unmoved (m ∷ ms) c = absurd (w.stable (counts_settled A a h (word_of _ _ e)).1.one.stable m.job m.side _ c.0.listed c.0.applies)

  pub counts_again : b ≡ left (said Word.settled (0 ∷ [])) a.win
  counts_again =
      let m = k.exactly.moves.settled (needs B) again_says in
      let z = unmoved m.moves m.chosen in
      let none : needs B ≡ 0 = sym m.many ∙ ap length z in
      ap (λ (x : Said). left x b.win) (again_says ∙ ap (λ (i : ℕ). said Word.settled (i ∷ [])) none)
      ∙ ap (left (said Word.settled (0 ∷ []))) (m.ends.led ∙ ap (reached_by B.search B.win) z ∙ w.windows)
