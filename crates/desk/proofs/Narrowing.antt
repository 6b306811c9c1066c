-- The laws over `narrow`'s contract that a user cites, handed on: two results are equal; a window that is too short; a ragged log; the same jobs in another
-- order; the settled windows narrowed again. When each answer is given is the contract's own field `exactly`.
pub use Rattle.timetable.proofs.Same.{narrows_same, results_same, fields_answer}
pub use Rattle.timetable.proofs.TooShort.{too_short_unscheduled, too_short_none, too_short_needs, too_short_row, too_short_exactly}
pub use Rattle.timetable.proofs.Ragged.{ragged_exactly, ragged_row}
pub use Rattle.timetable.proofs.Reordered.{refused_there, ragged_there, settled_there, clash_there}
pub use Rattle.timetable.proofs.Again.{good_again, settled_again, left_whole, settled_after}
