-- What the checker promises over any rules, of a call, the number of claimed records, and what it finds (the mission's demand 2; document 02, Items 3 and 10);
-- and what is asked of the test of a record and of its change.
use Rattle.std.specs.Prelude.{ℕ, ◌*◌, ◌≤◌, ◌<◌, ◌≡◌, List, [], ◌∷◌, ◌⊎◌, ◌↔◌, length}
use Rattle.lists.specs.Lists.{◌!◌}
use Rattle.narrowing.specs.Windows.{Win, Side, Long}
use Rattle.narrowing.specs.Rules.{Step}
use Rattle.narrowing.specs.Schedules.{Sound}
use Rattle.narrowing.specs.Search.{Move, move, after}
use Rattle.narrowing.specs.Rounds.{Choice}
use Rattle.answers.specs.Said.{Word, Said, said}
use Rattle.joblist.specs.Limits.{most_time}
use Rattle.journal.specs.Journal.{record_words, job_of, room_of}
use Rattle.promises.specs.Ask.{Ask, job_count, lasts, Good, Admitted, TurnedAway}
use Rattle.promises.specs.Table.{After}
use Rattle.promises.specs.Promise.{Scheduled, Narrows}
use Rattle.verdicts.specs.Replay.{Trial, rejected, Checked, finds, checked}
use Rattle.verdicts.specs.Fate.{nth, reached, Open, Shut, Fate}

-- what is asked: the code in facts, that a good record is one with code 0, whose job is listed, whose change is a step of the rules, and of which what is
-- promised holds; and that no rule applies to windows fixed by a schedule
pub record Judges (T : Trial) (A : Ask) : Type 0 where
  pub codes : (W : Win) (x : List ℕ) (k : ℕ) → (T.code W x ≡ k) ↔ T.coded W x k
  pub goods : (W : Win) (x : List ℕ) → (T.code W x ≡ 0) ↔ T.good W x
  pub listed : (W : Win) (x : List ℕ) → T.good W x → job_of x < job_count A
  pub step : (W : Win) (x : List ℕ) → T.good W x → Step (job_count A) (lasts A) A.rules W (T.changed W x)
  pub reasons : (W : Win) (x : List ℕ) → T.good W x → T.reasoned W x
  pub sound : Sound (job_count A) (lasts A) A.rules A.fits

-- the number of records that an answer takes: all where it holds or clashes, those before the bad one where it is rejected
abbrev pub taken_by : Word → ℕ → ℕ
taken_by Word.holds k = k
taken_by Word.clash k = k
taken_by Word.rejected k = k
taken_by Word.settled k = 0
taken_by Word.refused k = 0
taken_by Word.none k = 0
taken_by Word.overload k = 0
taken_by Word.written k = 0
taken_by Word.read k = 0
taken_by Word.marked k = 0

abbrev pub taken : Said → ℕ
taken a = taken_by a.word (a.numbers ! 0)

-- refusal k's row: turned away, by 1 to 3 or 7; or 6: the log is shorter than a record's words for each claimed record
abbrev pub RefusedRow : Ask → ℕ → ℕ → Type 0
RefusedRow A count k = TurnedAway A k ⊎ ((k ≡ 6) × Admitted A × (length A.log < record_words * count))

-- the list is good, whole records fill the log, and the claimed ones are among them
abbrev pub Claimed : Ask → ℕ → Type 0
Claimed A count = Admitted A × (count ≤ room_of A.log)

-- each answer exactly when the paper says so, in facts of the log, and the windows that it leaves
pub record Exactly (T : Trial) (A : Ask) (count : ℕ) (a : Checked) : Type 0 where
  pub refused : (k : ℕ) → (a.says ≡ said Word.refused (k ∷ [])) ↔ RefusedRow A count k
  -- all claimed records are good and close no window; the count is theirs
  pub holds : (n : ℕ) → (a.says ≡ said Word.holds (n ∷ [])) ↔ (Claimed A count × (n ≡ count) × Open T A count)
  -- the last claimed record is the first to close a window, job j's; or none is claimed, and j's is the lowest that is too short
  pub clash : (n j : ℕ) → (a.says ≡ said Word.clash (n ∷ j ∷ [])) ↔ (Claimed A count × (n ≡ count) × Shut T A count j)
  -- record i is the first bad one, for the reason k; or it comes after a window was closed, 20
  pub rejected : (i k : ℕ) → (a.says ≡ said Word.rejected (i ∷ k ∷ [])) ↔ (Claimed A count × Fate T A count (rejected i k))
  -- "holds" leaves the windows that the records reach, every other answer those submitted
  pub reached : a.says.word ≡ Word.holds → a.win ≡ reached T A count
  pub submitted : (a.says.word ≡ Word.holds → ⊥) → a.win ≡ A.win

-- the contract of the checker
pub record Checks (T : Trial) (A : Ask) (count : ℕ) (a : Checked) : Type 0 where
  pub answered : a ≡ checked T A count
  pub exactly : Exactly T A count a
  -- for every record it takes, whoever wrote it
  pub implied : (i : ℕ) → i < taken a.says → T.reasoned (reached T A i) (nth A i)
  -- every schedule within the submitted windows lies within those left
  pub kept : (s : List ℕ) → Scheduled A A.win s → Scheduled A a.win s
  -- a clash means that there is none
  pub none : a.says.word ≡ Word.clash → (s : List ℕ) → Scheduled A A.win s → ⊥

-- ---- the planner's logs

-- the call with another log, and its room
abbrev pub with_log : Ask → List ℕ → Ask
with_log A log =
    record {
      win = A.win;
      beside = A.beside;
      alone = A.alone;
      log = log;
      room = room_of log;
      search = A.search;
      rules = A.rules;
      fits = A.fits;
      broken = A.broken;
      entry = A.entry;
      fine = A.fine;
    }

-- a log that narrowing left on these windows, whatever stood in it before, with all its records claimed, is taken to the same end
pub record TakesLogs (A : Ask) (count : ℕ) (a : Checked) : Type 0 where
  pub settled : (before : List ℕ) (b : After) → Narrows (with_log A before) b → b.log ≡ A.log → b.says ≡ said Word.settled (count ∷ [])
      → a ≡ finds (said Word.holds (count ∷ [])) b.win
  pub clash : (before : List ℕ) (b : After) → Narrows (with_log A before) b → b.log ≡ A.log → (j : ℕ) → b.says ≡ said Word.clash (count ∷ j ∷ [])
      → a ≡ finds (said Word.clash (count ∷ j ∷ [])) A.win

-- what is asked of the records that the planner writes: on long windows within the limit of times each is good, stands for its move and names its job
pub record WritesGood (T : Trial) (A : Ask) : Type 0 where
  pub words : (m : Move) → length (A.entry m) ≡ record_words
  pub job : (m : Move) → job_of (A.entry m) ≡ m.job
  pub to : (W : Win) (j : ℕ) (s : Side) (c : ℕ) → T.changed W (A.entry (move W j s c)) ≡ after A.search W j s c
  pub good : Good A → (W : Win) → Long (job_count A) (lasts A) W → ((k : ℕ) → W.l ! k ≤ most_time) → (j : ℕ) (s : Side) (i : ℕ) (v : Side) (c : ℕ)
      → Choice A.search A.rules W j s (move W i v c) → T.good W (A.entry (move W i v c))
