-- What one turn of the work says at a place of a round, by its answer.
use Rattle.std.specs.Prelude.{ℕ, ◌≤◌, ◌<◌, ◌≡◌, true, false, List}
use Rattle.std.proofs.Math.Option.{none, some}
use Rattle.narrowing.specs.Windows.{Win, moved, closes}
use Rattle.journal.specs.Journal.{room_of, rewritten}
use Rattle.timetable.specs.Time.{bound}
use Rattle.timetable.specs.Table.{Call}
use Rattle.windows.specs.Bounds.{bound_at}
use Rattle.windows.specs.Sides.{side_is}
use Rattle.searches.specs.Found.{next_time}
use Rattle.noting.specs.Record.{record_of}
use Rattle.places.specs.declared.Place.{Place}
use Rattle.turns.specs.declared.Turn.{Turn}
use Rattle.turns.specs.declared.Turn.TheVariants.{Rests, Moved, Closed, Full}

-- the place's side moves at time t, with room for its record, number `count`: the windows W and the log after it
pub record Moves (c : Call) (at : Place) (count t : ℕ) (W : Win) (log : List ℕ) : Type 0 where
  pub found : next_time c at.job (side_is at.side) ≡ some t
  pub room : count < room_of c.log
  pub windows : W ≡ moved c.win at.job (side_is at.side) (bound (side_is at.side) t)
  pub record_is : log ≡ rewritten c.log count (record_of c at.job (side_is at.side) t)

-- a turn at a place, with so many records behind it, by its answer: no rule applies; one does, and there is no room; it moves, from the old bound; it closes the window
abbrev pub TurnSays : Call → Place → ℕ → Win → List ℕ → Turn → Type 0
TurnSays c at count W log Rests = (next_time c at.job (side_is at.side) ≡ none) × (W ≡ c.win) × (log ≡ c.log)
TurnSays c at count W log Full = (t : ℕ) × (next_time c at.job (side_is at.side) ≡ some t) × (room_of c.log ≤ count) × (W ≡ c.win) × (log ≡ c.log)
TurnSays c at count W log (Moved old) = (t : ℕ) × Moves c at count t W log × (closes c.p W at.job ≡ false) × (old ≡ bound_at c.win at.job (side_is at.side))
TurnSays c at count W log Closed = (t : ℕ) × Moves c at count t W log × (closes c.p W at.job ≡ true)
