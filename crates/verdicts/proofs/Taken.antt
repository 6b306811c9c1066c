-- Every log that narrowing writes is taken, replayed from the submitted windows, to the same end: over any rules whose records are good where their moves are
-- made. Its records are read back, and the verdict on them is how the run ended (`Replays`).
use Prim.Native.Nat.{ℕ, zero, suc, ◌≤◌}
use native.Mathlib.Omega.{arith}
use mathlib.Core.Path.{◌≡◌, refl, sym, ap, ◌∙◌}
use mathlib.Core.List.{List, [], ◌∷◌, map}
use mathlib.Core.Logic.{inl, inr}
use lib.ListN.{length}
use borrow.Author.Tests.{le-ltb}
use Rattle.lists.specs.Lists.{◌!◌}
use Rattle.narrowing.specs.Search.{Move}
use Rattle.narrowing.specs.Run.{Out, settled, clash, short}
use Rattle.narrowing.proofs.Runs.{Bounded, run_bounded}
use Rattle.answers.specs.Said.{Word, Said, said}
use Rattle.answers.proofs.Same.{not_said, said_apart}
use Rattle.journal.specs.Journal.{room_of, records, logged}
use Rattle.journal.proofs.Records.{room_length, whole_length, logged_length, logged_records}
use Rattle.promises.specs.Ask.{Ask, Grounds, job_count, lasts, Admitted, refusal_of}
use Rattle.promises.specs.Table.{After, ended, ran}
use Rattle.promises.specs.Promise.{Narrows}
use Rattle.promises.proofs.Calls.{call_admitted, whole}
use Rattle.promises.proofs.Logs.{entries_are, entries_count}
use Rattle.promises.proofs.Cased.{Case, cased}
use Rattle.verdicts.specs.Replay.{Trial, verdict_on, Checked, finds, judged, rows, checked}
use Rattle.verdicts.specs.Promise.{Judges, WritesGood, with_log, TakesLogs}
use Rattle.verdicts.proofs.Replays.{Ends, ran_ends}

-- ---- the log that was left

module _ (T : Trial) (A : Ask) (y : Judges T A) (z : WritesGood T A) (x : Grounds A) (g : Admitted A) where
  module _ (ms : List Move) (fits : length ms ≤ room_of A.log) where
    abbrev left : List ℕ
    left = logged (map A.entry ms) A.log

    read_back : records left 0 (length ms) ≡ map A.entry ms
    read_back =
        ap (records left 0) (sym (entries_count A.entry ms))
        ∙ logged_records (map A.entry ms) A.log (entries_are A.entry z.words ms) (omega (arith, entries_count A.entry ms))

    same_length : length left ≡ length A.log
    same_length = logged_length (map A.entry ms) A.log (entries_are A.entry z.words ms) (omega (arith, entries_count A.entry ms))

    same_room : room_of left ≡ room_of A.log
    same_room = room_length A.log left same_length

    admitted_left : refusal_of (with_log A left) ≡ 0
    admitted_left = call_admitted (with_log A left) (g.0, whole_length A.log left same_length g.1)

    -- the checker replays just the records of the moves
    checked_left : checked T (with_log A left) (length ms) ≡ judged A.win (length ms) (verdict_on T (job_count A) (lasts A) A.win (map A.entry ms))
    unfolding checked rows
    checked_left = rw (admitted_left, le-ltb (room_of left) (length ms) (omega (arith, same_room)), read_back)

-- ---- the answer

module _ (T : Trial) (A : Ask) (y : Judges T A) (z : WritesGood T A) (x : Grounds A) (space : A.room ≤ room_of A.log) (a : After) (h : Narrows A a) (b : Checked) where
  says_of : (c : After) → a ≡ c → (w : Said) → a.says ≡ w → c.says ≡ w
  says_of c e w q = sym (ap (λ (v : After). v.says) e) ∙ q

  -- the number of records said, where a run left the log
  counted : (ms : List Move) (n : ℕ) → length ms ≡ n → b ≡ checked T (with_log A a.log) n → a.log ≡ logged (map A.entry ms) A.log → Admitted A
      → length ms ≤ A.room → b ≡ judged A.win (length ms) (verdict_on T (job_count A) (lasts A) A.win (map A.entry ms))
  counted ms n v k l g d =
      k
      ∙ ap (λ (w : List ℕ). checked T (with_log A w) n) l
      ∙ ap (checked T (with_log A (logged (map A.entry ms) A.log))) (sym v)
      ∙ checked_left T A y z x g ms (omega arith)

  -- an answer other than a refusal is the run's
  by_answer : (P : Type 0) (w : Word) (ns : List ℕ) → a.says ≡ said w ns → (Word.refused ≡ w → ⊥)
      → ((g : Admitted A) (o : Out) → Ends T A y z x g.0 A.win o → Bounded A.search A.room A.win o → a ≡ ended A o → P) → P
  by_answer P w ns e f r = go (cased A a h.answered)
    where
      go : Case A a → P
      go (inl (i, d, q)) = absurd (f (ap (λ (v : Said). v.word) (says_of _ q _ e)))
      go (inr (g, q)) =
          r g (ran A) (ran_ends T A y z x g.0) (run_bounded A.search A.rules x.searches x.lawful A.room A.win (whole A g.0)) q

  -- settled: holds, with the same count and windows
  settled_taken : (n : ℕ) → a.says ≡ said Word.settled (n ∷ []) → b ≡ checked T (with_log A a.log) n → b ≡ finds (said Word.holds (n ∷ [])) a.win
  unfolding ended
  settled_taken n e k = by_answer (b ≡ finds (said Word.holds (n ∷ [])) a.win) Word.settled (n ∷ []) e (not_said Word.refused Word.settled (λ v. omega arith)) by_run
    where
      by_run : (g : Admitted A) (o : Out) → Ends T A y z x g.0 A.win o → Bounded A.search A.room A.win o → a ≡ ended A o → b ≡ finds (said Word.holds (n ∷ [])) a.win
      by_run g (settled U ms) r d q =
          let v : length ms ≡ n = ap (λ (w : Said). w.numbers ! 0) (says_of _ q _ e) in
          let u : a.win ≡ U = ap (λ (w : After). w.win) q in
          counted ms n v k (ap (λ (w : After). w.log) q) g (omega (arith, d.1)) ∙ ap (judged A.win (length ms)) r ∙ rw (v, u)
      by_run g (clash j ms) r d q = said_apart Word.clash Word.settled _ _ (λ v. omega arith) (says_of _ q _ e)
      by_run g short r d q = said_apart Word.refused Word.settled _ _ (λ v. omega arith) (says_of _ q _ e)

  -- clash: the same count and job
  clash_taken : (n j : ℕ) → a.says ≡ said Word.clash (n ∷ j ∷ []) → b ≡ checked T (with_log A a.log) n → b ≡ finds (said Word.clash (n ∷ j ∷ [])) A.win
  unfolding ended
  clash_taken n j e k = by_answer (b ≡ finds (said Word.clash (n ∷ j ∷ [])) A.win) Word.clash (n ∷ j ∷ []) e (not_said Word.refused Word.clash (λ v. omega arith)) by_run
    where
      by_run : (g : Admitted A) (o : Out) → Ends T A y z x g.0 A.win o → Bounded A.search A.room A.win o → a ≡ ended A o → b ≡ finds (said Word.clash (n ∷ j ∷ [])) A.win
      by_run g (settled U ms) r d q = said_apart Word.settled Word.clash _ _ (λ v. omega arith) (says_of _ q _ e)
      by_run g (clash i ms) r d q =
          let v : length ms ≡ n = ap (λ (w : Said). w.numbers ! 0) (says_of _ q _ e) in
          let u : i ≡ j = ap (λ (w : Said). w.numbers ! 1) (says_of _ q _ e) in
          counted ms n v k (ap (λ (w : After). w.log) q) g (omega (arith, d.1)) ∙ ap (judged A.win (length ms)) r ∙ rw (v, u)
      by_run g short r d q = said_apart Word.refused Word.clash _ _ (λ v. omega arith) (says_of _ q _ e)

-- the room plays no part
same_rows : (T : Trial) (A : Ask) (count k : ℕ) → rows T A count k ≡ rows T (with_log A A.log) count k
unfolding rows
same_rows T A count zero = refl
same_rows T A count (suc k) = refl

same_checked : (T : Trial) (A : Ask) (count : ℕ) → checked T A count ≡ checked T (with_log A A.log) count
unfolding checked refusal_of
same_checked T A count = same_rows T A count (refusal_of A)

-- whatever stood in the log before
pub takes_logs : (T : Trial) (A : Ask) (count : ℕ) → ((log : List ℕ) → Judges T (with_log A log)) → ((log : List ℕ) → WritesGood T (with_log A log))
    → ((log : List ℕ) → Grounds (with_log A log)) → TakesLogs A count (checked T A count)
takes_logs T A count y z x =
    record {
      settled = λ before b h l e.
          settled_taken T (with_log A before) (y before) (z before) (x before) (omega arith) b h (checked T A count) count e (at_log b l);
      clash = λ before b h l j e.
          clash_taken T (with_log A before) (y before) (z before) (x before) (omega arith) b h (checked T A count) count j e (at_log b l);
    }
  where
    at_log : (b : After) → b.log ≡ A.log → checked T A count ≡ checked T (with_log A b.log) count
    at_log b l = same_checked T A count ∙ ap (λ (w : List ℕ). checked T (with_log A w) count) (sym l)
