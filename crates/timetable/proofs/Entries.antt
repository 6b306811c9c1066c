-- The records of moves, whomever a writer names: each has a record's number of words, and there are as many as there are moves.
use mathlib.Core.Path.{◌≡◌}
use mathlib.Core.List.{List, map}
use lib.ListN.{length}
use Rattle.narrowing.specs.Windows.{number}
use Rattle.narrowing.specs.Search.{Move}
use Rattle.members.specs.Members.{set_words, setOf}
use Rattle.members.proofs.Sets.{set_of_length}
use Rattle.journal.specs.Journal.{record_words, AreRecords}
use Rattle.journal.proofs.Records.{written_length}
use Rattle.promises.proofs.Logs as logs
use Rattle.timetable.specs.Time.{Jobs}
use Rattle.timetable.specs.Search.{Names, naming}

module _ (M : Names) (J : Jobs) where
  pub entry_length : (m : Move) → length (naming M J m) ≡ record_words
  unfolding naming
  entry_length m =
      let named = M J m.before m.job m.choice in
      written_length m.job (number m.side) m.choice (setOf set_words named) (set_of_length set_words named)

  pub entries_are : (ms : List Move) → AreRecords (map (naming M J) ms)
  entries_are = logs.entries_are (naming M J) entry_length

  pub entries_count : (ms : List Move) → length (map (naming M J) ms) ≡ length ms
  entries_count = logs.entries_count (naming M J)
