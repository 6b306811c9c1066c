-- How a log by hand is put down: the call that is made, the claimed records, and what is due. Its number is 40 for holds, 41 for clash, else the refusal's or
-- the code.
use Rattle.std.specs.Prelude.{ℕ, ◌≡◌, List, [], ◌∷◌}
use Rattle.narrowing.specs.Windows.{Win}
use Rattle.answers.specs.Said.{Word, Said, said}
use Rattle.timetable.specs.Table.{Call}
use Rattle.checks.specs.Replay.{Checked, finds, checked}
use Rattle.checks.specs.Promise.{Exactly}
use Rattle.worked.specs.Rows.{Job, windows_of, with, Span, spans}

-- a log: its number, the call, the claimed records, and what is due
pub record Log : Type 0 where
  pub number : ℕ
  pub given : Call
  pub count : ℕ
  pub due : Checked

-- the definition finds what is due
abbrev pub Due : Log → Type 0
Due x = checked x.given x.count ≡ x.due

-- so does whatever meets the contract's field `exactly`
abbrev pub Pinned : Log → Type 0
Pinned x = (a : Checked) → Exactly x.given x.count a → a ≡ x.due

abbrev pub logs : ℕ → ℕ → List Job → ℕ → List ℕ → Said → Win → Log
logs number cap js count log a W = record { number = number; given = with cap js log; count = count; due = finds a W }

abbrev pub holding : ℕ → List Job → ℕ → List ℕ → List Span → Log
holding cap js count log xs = logs 40 cap js count log (said Word.holds (count ∷ [])) (spans xs)

abbrev pub clashing : ℕ → List Job → ℕ → List ℕ → ℕ → Log
clashing cap js count log j = logs 41 cap js count log (said Word.clash (count ∷ j ∷ [])) (windows_of js)

abbrev pub refused : ℕ → Call → ℕ → Log
refused k c count = record { number = k; given = c; count = count; due = finds (said Word.refused (k ∷ [])) c.win }

abbrev pub refusing : ℕ → ℕ → List Job → ℕ → List ℕ → Log
refusing k cap js count log = refused k (with cap js log) count

abbrev pub rejecting : ℕ → ℕ → ℕ → List Job → ℕ → List ℕ → Log
rejecting code place cap js count log = logs code cap js count log (said Word.rejected (place ∷ code ∷ [])) (windows_of js)
