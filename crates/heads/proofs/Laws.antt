-- Laws over the contract of the read head, which are those of narrowing by rules without a log: two results are equal, and `exactly` makes them so;
-- demand 2, each refusal, and a clash without a move (document 02, Item 3), in the read head's own words; how many moves there are; the same jobs in
-- another order get the same refusal, the same window each, or a clash again; settled windows settle with no move.
use Prim.Native.Nat.{ℕ, suc, ◌+◌, ◌≤◌, ◌<◌}
use mathlib.Core.Path.{◌≡◌, refl, sym, subst}
use mathlib.Core.List.{List, [], ◌∷◌}
use mathlib.Core.Logic.{◌↔◌}
use lib.ListN.{length}
use Rattle.lists.specs.Lists.{◌!◌}
use Rattle.lists.specs.Permutations.{Permutes, SameList}
use Rattle.lists.proofs.Permutations.{turned, list_back}
use Rattle.narrowing.specs.Windows.{Win, win, LowestTooShort, slack}
use Rattle.narrowing.specs.Rules.{Stable}
use Rattle.narrowing.specs.Schedules.{Schedule}
use Rattle.narrowing.specs.Renumbered.{SameWin}
use Rattle.answers.specs.declared.Answer.{Answer}
use Rattle.answers.specs.Said.{Word, said, says}
use Rattle.joblist.specs.Limits.{jobs, time_column, three_lists}
use Rattle.joblist.specs.GoodList.{Given}
use Rattle.joblist.specs.Renumbered.{SameColumn}
use Rattle.promises.specs.Plain.{task_of}
use Rattle.promises.specs.Counted.{ExactlyCounts}
use Rattle.promises.specs.Reordered.{SameAsk, Anew}
use Rattle.promises.proofs.CountedLaws as general
use Rattle.heads.specs.Precedences.{Overlap, Apart, Detects}
use Rattle.heads.specs.Promise.{head_ask, GoodHead, Left, left, sequenced, Sequences}
use Rattle.heads.specs.Reordered.{SameReads}
use Rattle.heads.proofs.Order.{detect_alike}
use Rattle.heads.proofs.Meaning.{sequences}

-- ---- results are equal

module _ (W : Win) (p : List ℕ) where
  pub sequences_same : (a b : Left) → Sequences W p a → Sequences W p b → a ≡ b
  sequences_same a b f g = general.counts_same (head_ask W p) a b f.counts g.counts

  pub results_same : (r q : Answer) (e l e' l' : List ℕ) → Sequences W p (left (says r) (win e l)) → Sequences W p (left (says q) (win e' l'))
      → (r ≡ q) × (e ≡ e') × (l ≡ l')
  results_same r q e l e' l' f g = general.counts_results_same (head_ask W p) r q e l e' l' f.counts g.counts

  -- what meets `exactly` is what the answer table says
  pub fields_answer : (a : Left) → ExactlyCounts (head_ask W p) a → a ≡ sequenced W p
  fields_answer a f = general.counts_firm (head_ask W p) a f (sequenced W p) (sequences W p).counts

  module _ (a : Left) (h : Sequences W p a) where
    -- ---- demand 2

    abbrev Scheduled : Win → List ℕ → Type 0
    Scheduled U s = Schedule (jobs W) p (Apart (jobs W) p) U s

    pub schedules_kept : (s : List ℕ) → Scheduled W s → Scheduled a.win s
    schedules_kept = h.counts.kept.schedules

    pub clash_none : a.says.word ≡ Word.clash → (s : List ℕ) → Scheduled W s → ⊥
    clash_none = h.counts.kept.none

    -- where every job of a good list is fixed, clash exactly if two jobs of positive duration overlap
    pub fixed_exactly : GoodHead W p → ((k : ℕ) → k < jobs W → W.l ! k ≡ W.e ! k + p ! k) → (a.says.word ≡ Word.clash) ↔ Overlap (jobs W) p W.e
    fixed_exactly g f = h.counts.kept.fixed g f tt

    -- ---- how many moves

    pub settled_most : (n : ℕ) → a.says ≡ said Word.settled (n ∷ []) → n ≤ slack p W (jobs W)
    settled_most n e = (h.counts.exactly.moves.settled n e).most

    pub clash_most : (n j : ℕ) → a.says ≡ said Word.clash (n ∷ j ∷ []) → n ≤ suc (slack p W (jobs W))
    clash_most n j e = (h.counts.exactly.moves.clash n j e).most

    -- ---- exactly when

    pub refused_exactly : (k : ℕ) → (a.says ≡ said Word.refused (k ∷ [])) ↔ ((1 ≤ k) × Given k (jobs W) (three_lists W p) [])
    refused_exactly = general.counts_refused (head_ask W p) a h.counts

    pub too_short_exactly : (j : ℕ) → (a.says ≡ said Word.clash (0 ∷ j ∷ [])) ↔ (GoodHead W p × LowestTooShort (jobs W) p W j)
    too_short_exactly = general.counts_too_short (head_ask W p) a h.counts

-- ---- another order

module _ (π σ : ℕ → ℕ) (W : Win) (p : List ℕ) (U : Win) (q : List ℕ) (t : Permutes (jobs W) π σ) (s : SameReads π W p U q) where
  column : (xs ys : List ℕ) → length ys ≡ length xs → SameList (jobs W) π xs ys → SameColumn (jobs W) π (time_column xs) (time_column ys)
  column xs ys e f = record { limit = refl; size = e; numbers = λ z. f }

  same_ask : SameAsk π σ (head_ask W p) (head_ask U q)
  same_ask =
      record {
        count = s.count;
        lists = (column _ _ s.count s.windows.early, (column _ _ s.ends s.windows.late, (column _ _ s.durations s.lasts, tt)));
        numbers = refl;
        windows = s.windows;
        durations = s.lasts;
        there = rw s.count (detect_alike (jobs W) π σ t p q s.lasts);
        back = rw s.count (detect_alike (jobs W) σ π (turned (jobs W) π σ t) q p (list_back (jobs W) π σ t p q s.lasts));
      }

  module _ (a b : Left) (f : Sequences W p a) (g : Sequences U q b) where
    pub refused_there : (k : ℕ) → a.says ≡ said Word.refused (k ∷ []) → b.says ≡ said Word.refused (k ∷ [])
    refused_there = general.counts_refused_there π σ (head_ask W p) (head_ask U q) t same_ask a b f.counts g.counts

    pub settled_there : (n : ℕ) → a.says ≡ said Word.settled (n ∷ []) → (m : ℕ) × (b.says ≡ said Word.settled (m ∷ [])) × SameWin (jobs W) π a.win b.win
    settled_there = general.counts_settled_there π σ (head_ask W p) (head_ask U q) t same_ask a b f.counts g.counts

    pub clash_there : (n i : ℕ) → a.says ≡ said Word.clash (n ∷ i ∷ []) → (m : ℕ) × (j : ℕ) × (b.says ≡ said Word.clash (m ∷ j ∷ []))
    clash_there = general.counts_clash_there π σ (head_ask W p) (head_ask U q) t same_ask a b f.counts g.counts

-- ---- the windows left, asked again

module _ (W : Win) (p : List ℕ) (a : Left) (h : Sequences W p a) (n : ℕ) (e : a.says ≡ said Word.settled (n ∷ [])) where
  same_count : jobs a.win ≡ jobs W
  same_count = (h.counts.exactly.moves.settled n e).ends.lengths.early

  anew : Anew (task_of (head_ask W p)) a.win (task_of (head_ask a.win p))
  anew =
      record {
        windows = refl;
        count = same_count;
        durations = refl;
        lists = refl;
        numbers = refl;
        stable = λ x. subst (λ (m : ℕ). Stable m (Detects m p) a.win) (sym same_count) x;
      }

  pub settled_again : (b : Left) → Sequences a.win p b → b ≡ left (said Word.settled (0 ∷ [])) a.win
  settled_again b k = general.counts_again (head_ask W p) a h.counts n e (head_ask a.win p) anew b k.counts
