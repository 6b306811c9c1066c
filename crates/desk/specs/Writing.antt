-- The words of the writer's contract, handed on: the form that is ours, the tests and their order, and that the reader gives back what was written.
pub use Rattle.chains.specs.Listed.{paired, PairInRange, InOrder, Rising, PairOutOfRange, OutOfOrder, NotRising}
unfoldable pub use Rattle.projects.specs.Form.{project_text}
pub use Rattle.projects.specs.Made.{made}
pub use Rattle.exchange.specs.Write.{WriteCall, WriteAfter, pairs_in, text_of, write_columns, alone, PairsTested, WriteRefusal, write_leaves, WriteAnswered, SaysSame, text_left, GivenBack, read_again, TakenAgain, Writes}
pub use Rattle.exchange.specs.WriteWhen.{ListsPass, Even, Uneven, TooMany, TooGreat, OutOfPlace, CyclicPairs, BufferShort, WritePassed}
