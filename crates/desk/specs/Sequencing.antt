-- The words of `sequence`'s contract, handed on: jobs that overlap, which job comes first, the two rules, what the run looks for, the call and what it leaves.
-- `AnyRules` has those over any rules that stand behind them: `Counts`, the contract of a call with numbers and without a log, and what it is made of.
pub use Rattle.lists.specs.Sets.{Ends, Latest}
pub use Rattle.lists.specs.Bounds.{Begins, Soonest}
unfoldable pub use Rattle.lists.specs.Bounds.{lead, latest, soonest}
pub use Rattle.heads.specs.Precedences.{Overlap, Apart, ComesFirst, StartsAfter, EndsBefore, Detects}
unfoldable pub use Rattle.heads.specs.Search.{comes_first, bound, detect}
pub use Rattle.heads.specs.Search.{firsts, nexts, early_bound, late_bound, search}
unfoldable pub use Rattle.heads.specs.Promise.{sequenced}
pub use Rattle.heads.specs.Promise.{Left, left, head_ask, GoodHead, FarthestChoice, Farthest, Sequences}
pub use Rattle.heads.specs.Reordered.{SameReads}
