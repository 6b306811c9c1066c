-- The words of the readers' contract, handed on: what a text says in either layout, the tests and their order, the lists that are filled.
pub use Rattle.chains.specs.Paths.{Pair, Precedes, Listed, Below, weight, Path, Cycle, Chain, Longest, Back, Longer}
unfoldable pub use Rattle.texts.specs.Tokens.{tokens}
pub use Rattle.texts.specs.Tokens.{Token}
pub use Rattle.texts.specs.Readings.{Read, good, bad}
pub use Rattle.projects.specs.Projects.{Row, Project, pairs_of, durations, demands_on}
unfoldable pub use Rattle.projects.specs.Patterson.{patterson}
unfoldable pub use Rattle.psplib.specs.Psplib.{psplib}
pub use Rattle.exchange.specs.Calls.{Lent, TextCall, TextAfter, Order, duration_of}
pub use Rattle.exchange.specs.Tests.{Fitting, Misfit, ListsFit, Unfit, TooLong, Unless, None, Tested, Met, Refusal}
pub use Rattle.exchange.specs.Table.{Filled, Taken, Leaves, Answered}
pub use Rattle.exchange.specs.Promise.{windows_in, ListedIn, RespectsPairs, capacity, pair_count, Reads}
pub use Rattle.exchange.specs.When.{Meets, AboveLimit, Says, NoResource, NoRoom, Cyclic, ChainTooLong, Readable}
