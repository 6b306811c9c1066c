-- The laws over the readers' contract that a user cites, handed on: two results are equal, and each refusal exactly when.
pub use Rattle.exchange.proofs.One.{reads_one, results_one}
pub use Rattle.exchange.proofs.When.{refused_exactly, read_exactly, when_text, when_31}
pub use Rattle.exchange.proofs.Exactly.{Numbered, patterson_numbered, psplib_numbered, exactly_35, exactly_37, exactly_38, exactly_33, exactly_34, exactly_read}
