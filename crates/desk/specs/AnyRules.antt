-- The words over any rules that stand behind those of `narrow`, `check_log` and `sequence`, handed on: what is asked, the answer table, the number of records
-- needed, the promises of a call without a log, the checker's replay.
unfoldable pub use Rattle.narrowing.specs.Run.{needed}
pub use Rattle.narrowing.specs.Run.{Out, settled, clash, short}
unfoldable pub use Rattle.promises.specs.Ask.{refusal_of}
pub use Rattle.promises.specs.Ask.{Ask, job_count, lasts, columns, Good, Admitted, TurnedAway, TooShort}
unfoldable pub use Rattle.promises.specs.Table.{ended, tabled, narrowed}
pub use Rattle.promises.specs.Table.{ran}
unfoldable pub use Rattle.promises.specs.Promise.{needs}
pub use Rattle.promises.specs.Promise.{Scheduled, StableIn, LargestIn, NoneIn, AllFixed, HasRoom, RefusedRow, Kept}
pub use Rattle.promises.specs.Plain.{Task, task_of, GoodTask, unnumbered, unwritten, numberless, Plain}
unfoldable pub use Rattle.promises.specs.Counted.{left_by}
pub use Rattle.promises.specs.Counted.{without_log, Made, Tally, ExactlyCounts, KeptUnder, Counts}
unfoldable pub use Rattle.verdicts.specs.Replay.{replay, verdict_on}
pub use Rattle.verdicts.specs.Replay.{Trial, Verdict, closing}
unfoldable pub use Rattle.verdicts.specs.Fate.{reached}
pub use Rattle.verdicts.specs.Fate.{nth, Takes, Held, Closed, Open, Closing, Shut, Fate}
