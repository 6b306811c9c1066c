-- The words of `overload`'s contract, handed on.
unfoldable pub use Rattle.overloads.specs.Overload.{pair?, stops, starts, overload}
pub use Rattle.overloads.specs.Overload.{Overloaded, NoneOverloaded, by, window, OverloadedPair, FirstPair, Finding, finding_if, Finds, found_said}
unfoldable pub use Rattle.overloads.specs.Promise.{overload_said}
pub use Rattle.overloads.specs.Promise.{Good, Overloads}
