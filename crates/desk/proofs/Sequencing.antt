-- The laws over `sequence`'s contract that a user cites, handed on: two results are equal, and the fields in facts make them so; demand 2; each refusal, and a
-- window that is too short, exactly when; settled and clash, with the number of moves; the same jobs in another order; the settled windows narrowed again.
pub use Rattle.heads.proofs.Laws.{sequences_same, results_same, fields_answer, schedules_kept, clash_none, fixed_exactly, settled_most, clash_most}
pub use Rattle.heads.proofs.Laws.{refused_exactly, too_short_exactly, refused_there, settled_there, clash_there, settled_again}
pub use Rattle.promises.proofs.CountedLaws.{counts_settled, counts_clash, counts_decided}
