-- The places of a round, as the work walks them (document 01, 'Order of work').
use Rattle.std.specs.Prelude.{ℕ, ◌+◌, Bool, true, false, ltb}
use Rattle.windows.specs.declared.Side.{Side}
use Rattle.windows.specs.declared.Side.TheVariants.{Start, End}
use Rattle.places.specs.declared.Place.{Place}

-- a place of a round, by its parts
abbrev pub place : ℕ → Side → Bool → Place
place job side changed = record { job = job; side = side; changed = changed }

-- a where the test passes, else b
abbrev pub pick_place : Bool → Place → Place → Place
pick_place true a b = a
pick_place false a b = b

-- the first job's side 0, with nothing changed yet
abbrev pub first_place : Place
first_place = place 0 Start false

-- from a job's side, as far as the round goes that has changed something or not
abbrev pub onward_from : ℕ → Side → Bool → ℕ → Place
onward_from job Start changed n = place job End changed
onward_from job End changed n =
    pick_place (ltb (job + 1) n) (place (job + 1) Start changed)
    (pick_place changed first_place (place n Start false))

-- side 1 after side 0, the next job's side 0 after side 1; at the end of the round a new one where it has changed something, else no job is left
abbrev pub onward_of : Place → ℕ → Place
onward_of at n = onward_from at.job at.side at.changed n
