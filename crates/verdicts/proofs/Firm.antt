-- The facts of `exactly` determine the checker's answer and windows by themselves, over any rules: what meets them is the definition's.
use Prim.Native.Nat.{ℕ, suc}
use mathlib.Core.Path.{◌≡◌, refl, sym, ap, ◌∙◌}
use Rattle.answers.specs.Said.{Word, Said}
use Rattle.answers.proofs.Same.{word_discrete}
use Rattle.journal.specs.Journal.{records}
use Rattle.promises.specs.Ask.{Ask, job_count, lasts}
use Rattle.verdicts.specs.Replay.{Trial, Verdict, holds, clashes, rejected, verdict_on, Checked, finds, judged, refuses, checked}
use Rattle.verdicts.specs.Promise.{Judges, Exactly}
use Rattle.verdicts.proofs.Rows.{Case, tested, six, judges, cased, exactly}

module _ (T : Trial) (A : Ask) (count : ℕ) where
  module _ (y : Judges T A) (a : Checked) (x : Exactly T A count a) where
    abbrev due : Checked
    due = checked T A count

    abbrev facts : Exactly T A count due
    facts = exactly T A count y due refl

    left : (s : Said) → due.says ≡ s → a.says ≡ s → a.win ≡ due.win
    left s d e = go (word_discrete s.word Word.holds)
      where
        word_of : (b : Checked) → b.says ≡ s → b.says.word ≡ s.word
        word_of b q = ap (λ (z : Said). z.word) q

        go : Dec (s.word ≡ Word.holds) → a.win ≡ due.win
        go (yes q) = x.reached (word_of a e ∙ q) ∙ sym (facts.reached (word_of due d ∙ q))
        go (no f) = x.submitted (λ z. f (sym (word_of a e) ∙ z)) ∙ sym (facts.submitted (λ z. f (sym (word_of due d) ∙ z)))

    pub facts_answer : a ≡ due
    facts_answer = go (cased T A count due refl)
      where
        same : (s : Said) → due.says ≡ s → a.says ≡ s → a ≡ due
        same s d e = ap (λ (z : Said). finds z a.win) (e ∙ sym d) ∙ ap (finds due.says) (left s d e)

        by : (v : Verdict) → due.says ≡ (judged A.win count v).says → a ≡ due
        by (holds U) q = same _ q ((x.holds count).1 ((facts.holds count).0 q))
        by (clashes j) q = same _ q ((x.clash count j).1 ((facts.clash count j).0 q))
        by (rejected i k) q = same _ q ((x.rejected i k).1 ((facts.rejected i k).0 q))

        refusal : (k : ℕ) → due ≡ refuses A.win k → a ≡ due
        refusal k q = let e = ap (λ (z : Checked). z.says) q in same _ e ((x.refused k).1 ((facts.refused k).0 e))

        go : Case T A count due → a ≡ due
        go (tested k d q) = refusal (suc k) q
        go (six g b q) = refusal 6 q
        go (judges g b q) = by (verdict_on T (job_count A) (lasts A) A.win (records A.log 0 count)) (ap (λ (z : Checked). z.says) q)
