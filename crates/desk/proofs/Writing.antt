-- The laws over the writer's contract that a user cites, handed on: two results are equal, each refusal exactly when, and when the reader takes the text again.
pub use Rattle.exchange.proofs.WriteTests.{writes_one, write_results_one, write_refused_exactly, written_exactly}
pub use Rattle.exchange.proofs.WriteBack.{round_trip_exactly}
pub use Rattle.exchange.proofs.WriteWhen.{write_1, write-2, write_3, write_32, write_33, write_36, write_none, write_numbers}
