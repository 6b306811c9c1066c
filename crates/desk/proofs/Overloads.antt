-- The laws over `overload`'s contract that a user cites, handed on: two results are equal; a good list is decided; a pair means that there is no schedule.
pub use Rattle.overloads.proofs.Rows.{decided, too_short_found, pair_jobs, overloads_same, answers_same}
pub use Rattle.overloads.proofs.Schedules.{pair_none}
