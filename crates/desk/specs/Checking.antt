-- The words of `check_log`'s contract, handed on: what it finds, the records in facts and their codes, and what is promised of every record that it takes.
-- A call is one of `narrow`'s (`Narrowing.Call`).
pub use Rattle.codes.specs.Facts.{side, InRange, TakesPart, Partners, OwnTrue, StatedTrue, Tightens, Passes, GoodRecord}
pub use Rattle.codes.specs.Faults.{OutOfRange, Idle, BadPartner, OwnFalse, Untrue, Idles, HasSpare, OnlySpare}
pub use Rattle.codes.specs.Codes.{Coded}
pub use Rattle.verdicts.specs.Replay.{Verdict, holds, clashes, rejected, Checked, finds}
unfoldable pub use Rattle.checks.specs.Replay.{changed, checked}
pub use Rattle.checks.specs.Replay.{ReasonedOn, trial}
pub use Rattle.checks.specs.Fate.{nth, reached, Takes, Open, Shut, Fate}
pub use Rattle.checks.specs.Promise.{Reasoned, RefusedRow, Claimed, Exactly, TakesLogs, Checks}
pub use Rattle.verdicts.specs.Promise.{taken_by, taken}
