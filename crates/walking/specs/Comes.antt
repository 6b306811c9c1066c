-- The pairs that rows say, as a second walk meets them.
use Rattle.std.specs.Prelude.{ℕ, List}
use Rattle.chains.specs.Paths.{Pair}
use Rattle.texts.specs.Readings.{Read, bad, good}
use Rattle.rowheads.specs.declared.Table.{Table}
use Rattle.walking.specs.Walk.{Seen, see}
use Rattle.walking.specs.declared.Walk.{Walk}

-- of what rows say, the pairs
abbrev pub only_pairs : Read Seen → Read (List Pair)
only_pairs (bad c) = bad c
only_pairs (good x ts) = good x.pairs ts

-- the pairs still to come at a place of the walk; the resource that the walk looks at makes no difference
abbrev pub comes : ℕ → Table → List ℕ → Walk → Read (List Pair)
comes n table s w = only_pairs (see n table 0 s w)

-- the start of the rows
abbrev pub rows_at : ℕ → Walk
rows_at at = record { next = 0; left = 0; at = at }
