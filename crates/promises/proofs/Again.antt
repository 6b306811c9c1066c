-- Last year's fault, over narrowing's contract and any rules: the settled windows, narrowed again, settle with no record; nothing moves, and the log is
-- left alone. The same of a call without a log and without numbers.
use Prim.Native.Nat.{ℕ, ◌≤◌, ◌<◌}
use native.Mathlib.Omega.{arith}
use native.Mathlib.Decide.{dec_lt}
use mathlib.Core.Path.{◌≡◌, sym, ap, subst, ◌∙◌}
use mathlib.Core.List.{List, [], ◌∷◌}
use lib.ListN.{length, get_or-eq_default}
use Rattle.lists.specs.Lists.{◌!◌, Every}
use Rattle.lists.proofs.Lists.{same_list}
use Rattle.narrowing.specs.Windows.{Win, Long}
use Rattle.narrowing.specs.Rules.{Candidate, Largest}
use Rattle.narrowing.specs.Led.{SameLengths}
use Rattle.narrowing.proofs.Again.{run_rests}
use Rattle.answers.specs.Said.{Word, Said, said}
use Rattle.joblist.specs.Limits.{most_time}
use Rattle.joblist.specs.GoodList.{Sized, Within}
use Rattle.journal.specs.Journal.{WholeRecords, logged, flat}
use Rattle.promises.specs.Ask.{Ask, Grounds, job_count, lasts, Good}
use Rattle.promises.specs.Table.{After, leaves, ended, tabled, narrowed}
use Rattle.promises.specs.Promise.{LargestIn, Narrows}
use Rattle.promises.specs.Plain.{Task, task_of, GoodTask, Left, Plain}
use Rattle.promises.specs.Reordered.{Anew}
use Rattle.promises.proofs.Calls.{call_admitted}
use Rattle.promises.proofs.Plain.{settled_exactly}

-- ---- of the lists alone: the windows X are the largest of K's, and L asks K's jobs in them

module _ (K : Task) (X : Win) (g : GoodTask K) (big : Largest K.n K.p K.rules K.win X) (same : SameLengths K.win X) (L : Task) (w : Anew K X L) where
  left_early : length X.e ≡ K.n
  left_early = same.early ∙ g.sized.0

  left_late : length X.l ≡ K.n
  left_late = same.late ∙ g.sized.1.0

  past : (xs : List ℕ) (k : ℕ) → length xs ≡ K.n → (k < K.n → ⊥) → xs ! k ≡ 0
  past xs k q b = get_or-eq_default xs 0 (omega arith)

  early_is : (k : ℕ) → L.win.e ! k ≡ X.e ! k
  early_is k = ap (λ (W : Win). W.e ! k) w.windows

  late_is : (k : ℕ) → L.win.l ! k ≡ X.l ! k
  late_is k = ap (λ (W : Win). W.l ! k) w.windows

  task_good : GoodTask L
  unfolding Long
  task_good =
      record {
        sized = (
          ap (λ (W : Win). length W.e) w.windows ∙ left_early ∙ sym w.count,
          (
            ap (λ (W : Win). length W.l) w.windows ∙ left_late ∙ sym w.count,
            (
              ap length w.durations ∙ g.sized.1.1.0 ∙ sym w.count,
              subst (λ (m : ℕ). Every (Sized m) L.beside) (sym w.count) (subst (Every (Sized K.n)) (sym w.lists) g.sized.1.1.1),
            ),
          ),
        );
        few = omega (arith, w.count, g.few);
        within = (
          λ k.
              elim (dec_lt k K.n) [
                | yes b ↦ omega (arith, early_is k, big.one.long k b, big.one.inside.late k b, g.within.1.0 k)
                | no b ↦ omega (arith, early_is k, past X.e k left_early b)
              ],
          (
            λ k.
                elim (dec_lt k K.n) [
                  | yes b ↦ omega (arith, late_is k, big.one.inside.late k b, g.within.1.0 k)
                  | no b ↦ omega (arith, late_is k, past X.l k left_late b)
                ],
            (subst (λ (p : List ℕ). (k : ℕ) → p ! k ≤ most_time) (sym w.durations) g.within.1.1.0, subst (Every Within) (sym w.lists) g.within.1.1.1),
          ),
        );
        beside = subst (Every Within) (sym w.numbers) g.beside;
      }

  task_long : Long L.n L.p L.win
  unfolding Long
  task_long k b = omega (arith, early_is k, late_is k, ap (λ (p : List ℕ). p ! k) w.durations, big.one.long k (omega (arith, w.count)))

-- ---- without a log and without numbers

module _ (K : Task) (a : Left) (h : Plain K a) (e : a.says ≡ said Word.settled []) (L : Task) (w : Anew K a.win L) (b : Left) (k : Plain L b) where
  word_of : (c : Left) → c.says ≡ said Word.settled [] → c.says.word ≡ Word.settled
  word_of c q = ap (λ (y : Said). y.word) q

  first : GoodTask K × Largest K.n K.p K.rules K.win a.win
  first = h.settled (word_of a e)

  good : GoodTask L
  good = task_good K a.win first.0 first.1 h.lengths L w

  itself : Candidate L.n L.p L.rules L.win L.win
  itself =
      record {
        inside = record { early = λ i c. omega arith; late = λ i c. omega arith };
        stable = w.stable first.1.one.stable;
        long = task_long K a.win first.0 first.1 h.lengths L w;
      }

  pub plain_again_says : b.says ≡ said Word.settled []
  plain_again_says = (settled_exactly L b k).1 (good, (L.win, itself))

  pub plain_again : (b.win.e ≡ L.win.e) × (b.win.l ≡ L.win.l)
  plain_again =
      let big = (k.settled (word_of b plain_again_says)).1 in
      let i = big.one.inside in
      let o = big.holds L.win itself in (
        same_list L.n b.win.e L.win.e (k.lengths.early ∙ good.sized.0) good.sized.0 (λ m c. omega (arith, i.early m c, o.early m c)),
        same_list L.n b.win.l L.win.l (k.lengths.late ∙ good.sized.1.0) good.sized.1.0 (λ m c. omega (arith, i.late m c, o.late m c)),
      )

-- ---- with a log

module _ (A : Ask) (a : After) (h : Narrows A a) (n : ℕ) (e : a.says ≡ said Word.settled (n ∷ [])) where
  pub word : a.says.word ≡ Word.settled
  word = ap (λ (y : Said). y.word) e

  good_first : Good A
  good_first = ((h.exactly.settled n).0 e).0

  largest_first : LargestIn A a.win
  largest_first = (h.largest good_first).settled word

  module _ (B : Ask) (w : Anew (task_of A) a.win (task_of B)) where
    -- the windows left are those of a good list, and each is long enough
    pub good_again : Good B
    good_again = task_good (task_of A) a.win good_first largest_first (h.reasons.settled n e).led.lengths (task_of B) w

    pub long_again : Long (job_count B) (lasts B) B.win
    long_again = task_long (task_of A) a.win good_first largest_first (h.reasons.settled n e).led.lengths (task_of B) w

    again : Grounds B → WholeRecords B.log → narrowed B ≡ leaves (said Word.settled (0 ∷ [])) B.win B.log
    unfolding narrowed tabled ended logged flat
    again y z =
        rw (call_admitted B (good_again, z), run_rests B.search B.rules y.searches B.room B.win long_again (w.stable largest_first.one.stable))

    pub settled_again : Grounds B → WholeRecords B.log → (b : After) → Narrows B b → b ≡ leaves (said Word.settled (0 ∷ [])) a.win B.log
    settled_again y z b k = k.answered ∙ again y z ∙ ap (λ (W : Win). leaves (said Word.settled (0 ∷ [])) W B.log) w.windows
