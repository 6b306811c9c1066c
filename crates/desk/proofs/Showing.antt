-- The laws of `show_record` that a user cites, handed on: the record's words, or an empty part, and nothing else.
pub use Rattle.journal.proofs.Records.{record_in, record_out, shown_firm}
