-- The words of `conflict`'s contract, handed on: the marks of a clash log, some jobs apart from the others, and what the call gives. A call is one of
-- `narrow`'s (`Narrowing.Call`), its claimed records are the checker's (`Checking.Claimed`).
pub use Rattle.lists.specs.Picked.{keep}
unfoldable pub use Rattle.lists.specs.Picked.{picked, picked_place}
pub use Rattle.conflicts.specs.Marks.{Traced}
unfoldable pub use Rattle.conflicts.specs.Marks.{marked_by}
pub use Rattle.conflicts.specs.Apart.{Together, only_of, Among}
pub use Rattle.conflicts.specs.Table.{Blamed, blame, unmarked}
unfoldable pub use Rattle.conflicts.specs.Table.{marks_of, marking, conflict_of}
pub use Rattle.conflicts.specs.Promise.{ClashOf, NoClash, RefusedRow, Exactly, NotTogether, Blames}
