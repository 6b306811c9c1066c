-- Rows of a table of runs: a row bears its number, what the run comes to, and what is due. And how lists are written down.
use Rattle.std.specs.Prelude.{ℕ, ◌*◌, ◌-◌, ◌≡◌, List, ◌∷◌, ◌++◌, map, length, replicate, drop}
use Rattle.narrowing.specs.Windows.{Win, win}
use Rattle.members.specs.Members.{set_words}
use Rattle.journal.specs.Journal.{record_words}
use Rattle.timetable.specs.Table.{Call, call}

pub record RunRow (A : Type 0) : Type 0 where
  pub number : ℕ
  pub done : A
  pub due : A

-- it comes to what is due
abbrev pub Right : {A : Type 0} → RunRow A → Type 0
Right x = x.done ≡ x.due

-- a job as 01 writes it: e, l, p, r
pub record Job : Type 0 where
  pub e : ℕ
  pub l : ℕ
  pub p : ℕ
  pub r : ℕ

abbrev pub job : ℕ → ℕ → ℕ → ℕ → Job
job e l p r = record { e = e; l = l; p = p; r = r }

abbrev pub windows_of : List Job → Win
windows_of js = win (map (λ (x : Job). x.e) js) (map (λ (x : Job). x.l) js)

abbrev pub durations_of : List Job → List ℕ
durations_of js = map (λ (x : Job). x.p) js

abbrev pub demands_of : List Job → List ℕ
demands_of js = map (λ (x : Job). x.r) js

-- the call with them, a capacity and a log
abbrev pub with : ℕ → List Job → List ℕ → Call
with cap js log = call (windows_of js) (durations_of js) (demands_of js) cap log

-- a narrowed window
pub record Span : Type 0 where
  pub from : ℕ
  pub to : ℕ

abbrev pub span : ℕ → ℕ → Span
span a b = record { from = a; to = b }

abbrev pub spans : List Span → Win
spans xs = win (map (λ (x : Span). x.from) xs) (map (λ (x : Span). x.to) xs)

-- a record's words: job, side, time, count, the first word of the set, and zeros
abbrev pub noted : ℕ → ℕ → ℕ → ℕ → ℕ → List ℕ
noted j s t n w = j ∷ s ∷ t ∷ n ∷ w ∷ replicate (set_words - 1) 0

-- the same where the members are all in word w of the set
abbrev pub noted_at : ℕ → ℕ → ℕ → ℕ → ℕ → ℕ → List ℕ
noted_at w j s t n x = j ∷ s ∷ t ∷ n ∷ (replicate w 0 ++ (x ∷ replicate (set_words - 1 - w) 0))

-- the words counted, and the rest of a log of nines as before
abbrev pub upon : ℕ → List ℕ → List ℕ
upon room ws = ws ++ drop (length ws) (replicate (room * record_words) 9)
