-- The replay of a log from the submitted windows (document 01, 'Answer table', the checker; document 02, Items 3 and 10), over any test of a record and any
-- change that a record stands for: records in turn, to the first bad one. A window that is too short is closed before any record.
use Rattle.std.specs.Prelude.{ℕ, zero, suc, Bool, true, false, List, [], ◌∷◌, ltb}
use Rattle.std.proofs.Math.Option.{Option, none, some}
use Rattle.narrowing.specs.Windows.{Win, closes, lowest_too_short}
use Rattle.answers.specs.Said.{Word, Said, said}
use Rattle.journal.specs.Journal.{job_of, room_of, records}
use Rattle.promises.specs.Ask.{Ask, job_count, lasts, refusal_of}

-- how a record is judged on the windows reached so far: the code of the first test that fails, 0 where none does; the windows after it; in facts, what a
-- good record is and when a code is given; and what is promised of a record that is taken
pub record Trial : Type 1 where
  pub code : Win → List ℕ → ℕ
  pub changed : Win → List ℕ → Win
  pub good : Win → List ℕ → Type 0
  pub coded : Win → List ℕ → ℕ → Type 0
  pub reasoned : Win → List ℕ → Type 0

-- what a replay comes to: the windows reached; the job whose window was closed; the place and code of the first bad record
pub data Verdict : Type 0 where
  holds : Win → Verdict
  clashes : ℕ → Verdict
  rejected : ℕ → ℕ → Verdict

-- job j's window is closed, and i is the place of the next record: there may be none, code 20
abbrev pub closing : ℕ → ℕ → List (List ℕ) → Verdict
closing i j [] = clashes j
closing i j (x ∷ xs) = rejected i 20

abbrev pub or_bad : ℕ → ℕ → Verdict → Verdict
or_bad i zero v = v
or_bad i (suc c) v = rejected i (suc c)

abbrev pub or_closed : Bool → Verdict → Verdict → Verdict
or_closed true a b = a
or_closed false a b = b

-- the records from place i on, on the windows reached so far, of jobs that last p
unfoldable pub replay : Trial → List ℕ → Win → ℕ → List (List ℕ) → Verdict
replay T p W i [] = holds W
replay T p W i (x ∷ xs) =
    let U = T.changed W x in
    let rest = replay T p U (suc i) xs in
    let good = or_closed (closes p U (job_of x)) (closing (suc i) (job_of x) xs) rest in
    or_bad i (T.code W x) good

-- where a window is too short, it is closed before the first record
abbrev pub or_too_short : Option ℕ → List (List ℕ) → Verdict → Verdict
or_too_short none xs v = v
or_too_short (some j) xs v = closing 0 j xs

-- all records, from the submitted windows
unfoldable pub verdict_on : Trial → ℕ → List ℕ → Win → List (List ℕ) → Verdict
unfolding lowest_too_short replay
verdict_on T n p W xs = let replayed = replay T p W 0 xs in or_too_short (lowest_too_short n p W) xs replayed

-- what the checker answers and leaves in the windows; the log is only read
pub record Checked : Type 0 where
  pub says : Said
  pub win : Win

abbrev pub finds : Said → Win → Checked
finds a W = record { says = a; win = W }

-- the rows of a verdict on so many records, where the windows W were submitted
abbrev pub judged : Win → ℕ → Verdict → Checked
judged W count (holds U) = finds (said Word.holds (count ∷ [])) U
judged W count (clashes j) = finds (said Word.clash (count ∷ j ∷ [])) W
judged W count (rejected i k) = finds (said Word.rejected (i ∷ k ∷ [])) W

abbrev pub refuses : Win → ℕ → Checked
refuses W k = finds (said Word.refused (k ∷ [])) W

-- 6: the log is shorter than a record's words for each claimed record
abbrev pub or_six : {X : Type 0} → Bool → X → X → X
or_six true six v = six
or_six false six v = v

-- what is made of a call with so many claimed records, where number k turns it away or, 0, none does: of k, of 6, else of the verdict. The checker's rows
unfoldable pub rows_of : {X : Type 0} → (ℕ → X) → (Verdict → X) → Trial → Ask → ℕ → ℕ → X
unfolding room_of records verdict_on
rows_of refuse judge T A count zero =
    let v = judge (verdict_on T (job_count A) (lasts A) A.win (records A.log 0 count)) in
    or_six (ltb (room_of A.log) count) (refuse 6) v
rows_of refuse judge T A count (suc k) = refuse (suc k)

unfoldable pub rows : Trial → Ask → ℕ → ℕ → Checked
unfolding rows_of
rows T A count k = rows_of (refuses A.win) (judged A.win count) T A count k

-- the checker's answer on a call with so many claimed records
unfoldable pub checked : Trial → Ask → ℕ → Checked
unfolding rows refusal_of
checked T A count = rows T A count (refusal_of A)
