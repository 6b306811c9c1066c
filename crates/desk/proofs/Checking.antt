-- The laws over `check_log`'s contract that a user cites, handed on: two results are equal; a record moves one bound; 27 exactly when; a window that is too
-- short; a ragged log; a log replayed from the windows that it left. When each answer is given is the contract's own field `exactly`.
pub use Rattle.checks.proofs.Rows.{checks_same, results_same, facts_answer, one_bound, others_stay}
pub use Rattle.checks.proofs.Spare.{spare_rejected}
pub use Rattle.checks.proofs.TooShort.{too_short_unclaimed, too_short_claimed}
pub use Rattle.checks.proofs.Ragged.{ragged_exactly, ragged_row}
pub use Rattle.checks.proofs.Again.{left_rejected}
