-- The replay of a log of time-tabling from the submitted windows (document 01, 'Answer table', the checker; document 02, Items 3, 7 and 10): that of any
-- test of a record (`verdicts`), with codes 21 to 27 for the test, and one bound of one job for the change.
use Rattle.std.specs.Prelude.{ℕ, List}
use Rattle.narrowing.specs.Windows.{Win, moved}
use Rattle.journal.specs.Journal.{job_of, time_of, is_member}
use Rattle.timetable.specs.Time.{Jobs, bound}
use Rattle.timetable.specs.Reason.{Stated, Implied, StartsWithin, LeanRecord}
use Rattle.timetable.specs.Table.{Call, jobs_of, asks, refusal_of}
use Rattle.codes.specs.Facts.{side, GoodRecord}
use Rattle.codes.specs.Codes.{code, Coded}
use Rattle.verdicts.specs.Replay.{Trial}
pub use Rattle.verdicts.specs.Replay.{Verdict, holds, clashes, rejected, closing, or_bad, or_closed, Checked, finds}
use Rattle.verdicts.specs.Replay as verdicts

-- the windows after a record: one bound of its job moves, to t + 1 on side 0 and to t on side 1
unfoldable pub changed : Win → List ℕ → Win
changed W x = moved W (job_of x) (side x) (bound (side x) (time_of x))

-- the record x implies its own change from the facts that it names, for any whole starts; the facts hold of all starts in the windows W; and it names no
-- member that it could do without
pub record ReasonedOn (J : Jobs) (W : Win) (x : List ℕ) : Type 0 where
  pub implies : Implied J (is_member x) (job_of x) (side x) (time_of x)
  pub true_there : (s : List ℕ) → StartsWithin J.n J.p W s → Stated J.n J.p s (is_member x) (job_of x) (side x) (time_of x)
  pub lean : LeanRecord J x

-- how a record is judged
abbrev pub trial : Jobs → Trial
trial J = record { code = code J; changed = changed; good = GoodRecord J; coded = Coded J; reasoned = ReasonedOn J }

-- the records from place i on, on the windows reached so far; all records, from the submitted windows
unfoldable pub replay : Jobs → Win → ℕ → List (List ℕ) → Verdict
unfolding verdicts.replay code changed
replay J W i xs = verdicts.replay (trial J) J.p W i xs

unfoldable pub verdict_on : Jobs → Win → List (List ℕ) → Verdict
unfolding verdicts.verdict_on replay
verdict_on J W xs = verdicts.verdict_on (trial J) J.n J.p W xs

-- the rows of a verdict on so many records, of a refusal, and of all
abbrev pub judged : Call → ℕ → Verdict → Checked
judged c = verdicts.judged c.win

abbrev pub refuses : Call → ℕ → Checked
refuses c = verdicts.refuses c.win

unfoldable pub rows : Call → ℕ → ℕ → Checked
unfolding verdicts.rows verdict_on
rows c count k = verdicts.rows (trial (jobs_of c)) (asks c) count k

-- the checker's answer on a call with so many claimed records
unfoldable pub checked : Call → ℕ → Checked
unfolding verdicts.checked rows refusal_of
checked c count = verdicts.checked (trial (jobs_of c)) (asks c) count
