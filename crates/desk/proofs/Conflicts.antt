-- The laws over `conflict`'s contract that a user cites, handed on: whom records mark; two results are equal; when 8 is given; the marked jobs are jobs of
-- the list, as many as the list of them alone has; that list is good and narrowing it ends in a clash, as does any list that they are among, and none of
-- these has a schedule.
pub use Rattle.conflicts.proofs.Marks.{marked_own, marked_alone, marked_closing, marked_traced}
pub use Rattle.conflicts.proofs.Same.{blames_same, results_same, facts_answer, eight_exactly, all_listed, marked_many}
pub use Rattle.conflicts.proofs.Only.{only_good, only_among, together_fewer}
pub use Rattle.conflicts.proofs.Meaning.{none_elsewhere, none_tighter, clash_elsewhere, clash_alone, clash_alone_free, named_after_clash}
