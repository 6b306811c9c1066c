-- The words that all calls of the desk have in common, handed on, so that a user who names the desk can cite and unfold them: windows, good lists and their
-- limits, sums and sets, and the record's layout.
pub use Rattle.lists.specs.Lists.{◌!◌, Every}
pub use Rattle.lists.specs.Tests.{both, either, only, unless, failed_or}
unfoldable pub use Rattle.lists.specs.Sums.{total}
unfoldable pub use Rattle.lists.specs.Sets.{total_of}
pub use Rattle.lists.specs.Sets.{Set, Sub, LeastOf, GreatestOf}
pub use Rattle.lists.specs.Permutations.{Permutes, SameList}
unfoldable pub use Rattle.narrowing.specs.Windows.{Long, slack}
pub use Rattle.narrowing.specs.Windows.{Win, win, Side, early, late, number, side_of, moved, closes, Inside, LowestTooShort}
pub use Rattle.joblist.specs.Limits.{most_time, most_demand, most_jobs, most_resources, Column, time_column, demand_column, jobs, four_lists, three_lists, two_lists, supply}
unfoldable pub use Rattle.joblist.specs.GoodList.{refusal}
pub use Rattle.joblist.specs.GoodList.{GoodList, Sized, Within, Any, Above, Unequal, Given}
unfoldable pub use Rattle.members.specs.Members.{has, ones_of, setOf}
pub use Rattle.members.specs.Members.{set_words, AreWords}
unfoldable pub use Rattle.journal.specs.Journal.{room_of, is_whole, record_at, records, logged, cleared}
pub use Rattle.journal.specs.Journal.{job_word, side_word, time_word, count_word, head_words, record_words, WholeRecords, Ragged, set_of_record, job_of, time_of, is_member}
