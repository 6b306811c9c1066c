-- The words of `narrow`'s contract, handed on: the call and what it leaves, its promises (`exactly`, `kept`, `largest`, `reasons`, `unmoved`), and the words
-- that their premises and fields need; `AnyRules` has those over any rules that stand behind them.
unfoldable pub use Rattle.lists.specs.Extremes.{greatest, least}
unfoldable pub use Rattle.lists.specs.Spares.{spare, leaned}
pub use Rattle.lists.specs.Spares.{amount, without, NoneSpare}
unfoldable pub use Rattle.narrowing.specs.Rules.{Stable}
pub use Rattle.narrowing.specs.Rules.{Family, Candidate, Largest, NoCandidate}
pub use Rattle.narrowing.specs.Schedules.{Schedule}
pub use Rattle.narrowing.specs.Renumbered.{SameWin}
pub use Rattle.narrowing.specs.Search.{Search, Move, move, after}
pub use Rattle.narrowing.specs.Run.{reached_by}
pub use Rattle.narrowing.specs.Rounds.{place_of, Passed, Choice, Chosen}
pub use Rattle.narrowing.specs.Led.{SameLengths, Led, Closes, Clashed}
pub use Rattle.promises.specs.Reasons.{Logged, Settles, Clashes}
unfoldable pub use Rattle.timetable.specs.Time.{runs_at, drawn_by, drawn, Fits, sure, load}
pub use Rattle.timetable.specs.Time.{Jobs, Runs, Overdrawn, Sure, Crowded, Early, Late, bound, Applies}
unfoldable pub use Rattle.timetable.specs.Search.{crowded, best, member, lean_member, naming}
pub use Rattle.timetable.specs.Search.{search, Member, entry}
unfoldable pub use Rattle.timetable.specs.Reason.{named_drawn}
pub use Rattle.timetable.specs.Reason.{OwnFact, Stated, Implied, Changed, StartsWithin, named, Counted, Exceeds, Lean, LeanRecord}
pub use Rattle.timetable.specs.Table.{Call, call, jobs_of, asks, Good, Admitted, AllLong, TooShort, Workable, narrowed}
pub use Rattle.promises.specs.Table.{After, leaves}
pub use Rattle.timetable.specs.Promise.{Scheduled, StableIn, LargestIn, NoneIn, AllFixed, HasRoom, needs, Room, RefusedRow, Exactly, Kept, Narrowest, Narrows}
pub use Rattle.timetable.specs.Reasons.{Reasons, Shortens, Shortened, fully_named, Unmoved}
pub use Rattle.timetable.specs.Reordered.{SameCall}
