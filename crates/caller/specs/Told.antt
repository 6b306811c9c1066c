-- What a user's five functions tell, in the words of the desk's promises alone: each has the contract of the call that it makes, in every lent word, and its
-- result exactly where that call's word is the one asked for.
use Rattle.std.specs.Prelude.{ℕ, suc, ◌<◌, ◌≡◌, Bool, true, List, ◌↔◌}
use Rattle.answers.specs.Said.{Word, Said}
use Rattle.desk.specs.Lists.{Win, Long, jobs, slack, has}
use Rattle.desk.specs.AnyRules as rules
use Rattle.desk.specs.Narrowing.{Call, Good, HasRoom, StableIn, NoneIn, Scheduled, leaves, Narrows}
use Rattle.desk.specs.Checking.{finds, Checks}
use Rattle.desk.specs.Conflicts.{blame, Blames}
use Rattle.desk.specs.Sequencing.{head_ask, GoodHead, left, Sequences}
use Rattle.desk.specs.Reading.{Lent, TextCall, windows_in, Reads}

-- whether the windows of a job list could be narrowed
pub record ToldSettles (c : Call) (U : Win) (log : List ℕ) (r : Bool) : Type 0 where
  pub says : Said
  pub narrows : Narrows c (leaves says U log)
  pub settled : (r ≡ true) ↔ (says.word ≡ Word.settled)
  -- with room for more records than the sum of l - e - p, exactly when there are stable windows, and else there are none
  pub free : Good c → HasRoom c (suc (slack c.p c.win (jobs c.win))) → ((r ≡ true) ↔ ((W : Win) × StableIn c W)) × ((r ≡ true → ⊥) → NoneIn c)

-- whether a log of claimed records holds
pub record ToldHolds (c : Call) (count : ℕ) (U : Win) (r : Bool) : Type 0 where
  pub says : Said
  pub checks : Checks c count (finds says U)
  pub holds : (r ≡ true) ↔ (says.word ≡ Word.holds)

-- whether a log shows some jobs that cannot be done together: those of a member set, each in the list; then no start times of theirs fit, nor of all jobs
pub record ToldHopeless (c : Call) (count : ℕ) (r : Bool) : Type 0 where
  pub says : Said
  pub set : List ℕ
  pub blames : Blames c count (blame says set)
  pub marked : (r ≡ true) ↔ (says.word ≡ Word.marked)
  pub listed : r ≡ true → (k : ℕ) → has set k ≡ true → k < jobs c.win
  pub none : r ≡ true → (s : List ℕ) → Scheduled c c.win s → ⊥

-- whether the windows of jobs that are done one at a time could be narrowed
pub record ToldSequences (W : Win) (p : List ℕ) (U : Win) (r : Bool) : Type 0 where
  pub says : Said
  pub sequences : Sequences W p (left says U)
  pub settled : (r ≡ true) ↔ (says.word ≡ Word.settled)
  -- of a good list, exactly when there are windows to which no rule applies, and else there is no schedule
  pub free : GoodHead W p
      → ((r ≡ true) ↔ ((X : Win) × rules.StableIn (head_ask W p) X))
      × ((r ≡ true → ⊥) → (s : List ℕ) → rules.Scheduled (head_ask W p) W s → ⊥)

-- whether a project text could be read
pub record ToldReads (c : TextCall) (L : Lent) (r : Bool) : Type 0 where
  pub says : Said
  pub reads : Reads c (record { says = says; lent = L })
  pub read : (r ≡ true) ↔ (says.word ≡ Word.read)
  -- narrowing then finds no window that is too short
  pub long : r ≡ true → Long (jobs (windows_in L)) L.dur (windows_in L)
