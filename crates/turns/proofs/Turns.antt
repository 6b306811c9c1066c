-- What a turn has from the search: the time that it found is within the limit, and with the record and the move made the place's side has moved.
use Prim.Native.Nat.{ℕ, ◌≤◌, ◌<◌}
use native.Mathlib.Omega.{arith}
use mathlib.Core.Path.{◌≡◌, sym}
use mathlib.Core.List.{List}
use mathlib.Core.Option.{some}
use Rattle.std.specs.Prelude.{Some}
use Rattle.narrowing.specs.Windows.{Win, win, moved}
use Rattle.joblist.specs.Limits.{most_time, jobs}
use Rattle.journal.specs.Journal.{room_of, rewritten}
use Rattle.timetable.specs.Time.{bound}
use Rattle.timetable.specs.Table.{Call, call, Workable}
use Rattle.windows.specs.Sides.{side_is}
use Rattle.windows.specs.Found.{as_option}
use Rattle.searches.specs.Found.{next_time}
use Rattle.crowding.specs.Asked.{asked}
use Rattle.timetable.proofs.Moves.{best_applies, time_small}
use Rattle.searches.proofs.Answers.{found_some}
use Rattle.noting.specs.Record.{record_of}
use Rattle.places.specs.declared.Place.{Place}
use Rattle.turns.specs.Moves.{Moves}

module _ (e l p r : List ℕ) (cap : ℕ) (log : List ℕ) (at : Place) (t : ℕ) where
  abbrev here : Call
  here = call (win e l) p r cap log

  module _ (x : Some t ≡ as_option (next_time here at.job (side_is at.side))) where
    pub found_time : next_time here at.job (side_is at.side) ≡ some t
    found_time = found_some (next_time here at.job (side_is at.side)) t (sym x)

    pub turn_time : Workable here → at.job < jobs here.win → t ≤ most_time
    turn_time w b =
        let a = best_applies here w at.job (side_is at.side) b t found_time in
        omega (arith, time_small (win e l) p r cap log w at.job (side_is at.side) t b a)

    pub turn_moves : (count : ℕ) (W : Win) (after : List ℕ) → count < room_of log
        → W ≡ moved (win e l) at.job (side_is at.side) (bound (side_is at.side) t)
        → after ≡ rewritten log count (record_of (asked e l p r cap) at.job (side_is at.side) t)
        → Moves here at count t W after
    turn_moves count W after b w d =
        record {
          found = found_time;
          room = b;
          windows = w;
          record_is = d;
        }
