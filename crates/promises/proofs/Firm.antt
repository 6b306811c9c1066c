-- The fields `exactly` and `reasons` determine narrowing's answer, windows and log by themselves, over any rules: what meets them is what the answer table says.
use Prim.Native.Nat.{ℕ, suc}
use native.Mathlib.Omega.{arith}
use mathlib.Core.Path.{◌≡◌, refl, sym, ap, ◌∙◌}
use mathlib.Core.List.{List, [], ◌∷◌, map}
use mathlib.Core.Logic.{inl, inr}
use lib.ListN.{length}
use Rattle.narrowing.specs.Windows.{Win, early}
use Rattle.narrowing.specs.Search.{Move}
use Rattle.narrowing.specs.Led.{Clashed}
use Rattle.narrowing.specs.Run.{Out, settled, clash, short, reached_by}
use Rattle.narrowing.proofs.Chosen.{chosen_one, clash_one}
use Rattle.answers.specs.Said.{Word, Said, said}
use Rattle.answers.proofs.Same.{not_said}
use Rattle.journal.specs.Journal.{logged}
use Rattle.promises.specs.Ask.{Ask, Grounds}
use Rattle.promises.specs.Table.{After, leaves, ended, ran, narrowed}
use Rattle.promises.specs.Reasons.{Logged, Reasons}
use Rattle.promises.specs.Promise.{Exactly}
use Rattle.promises.proofs.Calls.{away_exactly, away_not_five}
use Rattle.promises.proofs.Cased.{Case, cased}
use Rattle.promises.proofs.Meaning.{narrows}

pub same_after : (a b : After) → a.says ≡ b.says → a.win ≡ b.win → a.log ≡ b.log → a ≡ b
same_after a b s w l =
    ap (λ (x : Said). leaves x a.win a.log) s ∙ ap (λ (W : Win). leaves b.says W a.log) w ∙ ap (leaves b.says b.win) l

module _ (A : Ask) (x : Grounds A) (a : After) (e : Exactly A a) (r : Reasons A a) where
  abbrev due : After
  due = narrowed A

  abbrev facts : Exactly A due
  facts = (narrows A x).exactly

  abbrev reasoned : Reasons A due
  reasoned = (narrows A x).reasons

  -- as many records are the same moves, so the same log
  moves_one : (b : After) (n : ℕ) (f : Logged A a n) (g : Logged A b n) → f.moves ≡ g.moves
  moves_one b n f g = chosen_one A.search A.rules f.moves g.moves A.win 0 early f.chosen g.chosen (f.many ∙ sym g.many)

  logs_one : (b : After) (n : ℕ) (f : Logged A a n) (g : Logged A b n) → a.log ≡ b.log
  logs_one b n f g = f.log ∙ ap (λ (ms : List Move). logged (map A.entry ms) A.log) (moves_one b n f g) ∙ sym g.log

  not_settled : (w : Word) (ns : List ℕ) → (w ≡ Word.settled → ⊥) → (b : After) → b.says ≡ said w ns → b.says.word ≡ Word.settled → ⊥
  not_settled w ns f b q z = f (sym (ap (λ (y : Said). y.word) q) ∙ z)

  -- every other answer than settled leaves the submitted windows
  submitted_both : (w : Word) (ns ms : List ℕ) → (w ≡ Word.settled → ⊥) → a.says ≡ said w ns → due.says ≡ said w ms → a.win ≡ due.win
  submitted_both w ns ms f q p = e.submitted (not_settled w ns f a q) ∙ sym (facts.submitted (not_settled w ms f due p))

  by_settled : (n : ℕ) → due.says ≡ said Word.settled (n ∷ []) → a ≡ due
  by_settled n p =
      let q = (e.settled n).1 ((facts.settled n).0 p) in
      let f = r.settled n q in
      let g = reasoned.settled n p in
      same_after a due (q ∙ sym p) (f.led.led ∙ ap (reached_by A.search A.win) (moves_one due n f.logs g.logs) ∙ sym g.led.led) (logs_one due n f.logs g.logs)

  by_clash : (n j : ℕ) → due.says ≡ said Word.clash (n ∷ j ∷ []) → a ≡ due
  by_clash n j p =
      let c = (e.clash n).1 ((facts.clash n).0 (j, p)) in
      let i = c.0 in
      let q = c.1 in
      let f = r.clash n i q in
      let g = reasoned.clash n j p in
      let k : i ≡ j = clash_one A.search A.win g.logs.moves i j (moved_clash f.logs.moves g.logs.moves i (moves_one due n f.logs g.logs) f.clashed) g.clashed in
      same_after a due (q ∙ ap (λ (m : ℕ). said Word.clash (n ∷ m ∷ [])) k ∙ sym p)
      (submitted_both Word.clash (n ∷ i ∷ []) (n ∷ j ∷ []) (not_said Word.clash Word.settled (λ z. omega arith)) q p)
      (logs_one due n f.logs g.logs)
    where
      moved_clash : (ms ns : List Move) (i : ℕ) → ms ≡ ns → Clashed A.search A.win ms i → Clashed A.search A.win ns i
      moved_clash ms ns i q c = rw (← q) c

  refused_word : Word.refused ≡ Word.settled → ⊥
  refused_word = not_said Word.refused Word.settled (λ z. omega arith)

  by_refusal : (k : ℕ) → due.says ≡ said Word.refused (k ∷ []) → (a.says ≡ said Word.refused (k ∷ []) → a.log ≡ due.log) → a ≡ due
  by_refusal k p l =
      let q = (e.refused k).1 ((facts.refused k).0 p) in
      same_after a due (q ∙ sym p) (submitted_both Word.refused (k ∷ []) (k ∷ []) refused_word q p) (l q)

  pub fields_answer : a ≡ due
  unfolding ended
  fields_answer = go (cased A due refl)
    where
      says_of : (b : After) → due ≡ b → due.says ≡ b.says
      says_of b q = ap (λ (y : After). y.says) q

      by_run : (o : Out) → due ≡ ended A o → a ≡ due
      by_run (settled U ms) q = by_settled (length ms) (says_of _ q)
      by_run (clash j ms) q = by_clash (length ms) j (says_of _ q)
      by_run short q = by_refusal 5 (says_of _ q) (λ p. e.zeros p ∙ sym (facts.zeros (says_of _ q)))

      go : Case A due → a ≡ due
      go (inl (k, d, q)) =
          let f : suc k ≡ 5 → ⊥ = away_not_five A (suc k) ((away_exactly A (suc k)).0 (omega arith, d)) in
          by_refusal (suc k) (says_of _ q) (λ p. e.before (suc k) f p ∙ sym (facts.before (suc k) f (says_of _ q)))
      go (inr (g, q)) = by_run (ran A) q
