-- The defined run, for any search: a clash before any move where a window is too short (document 02, Item 3), else moves in document 01's order
-- of work, with the room as their quota. `Rounds` has the same order in literal rounds; the law `work_rounds` says that the work comes
-- to the same end.
use Rattle.std.specs.Prelude.{ℕ, zero, suc, ◌-◌, Bool, true, false, List, [], ◌∷◌, length}
use Rattle.std.proofs.Math.Option.{Option, none, some}
use Rattle.narrowing.specs.Windows.{Win, Side, early, late, closes, slack, lowest_too_short}
use Rattle.narrowing.specs.Search.{Search, after, Move, move}

-- no place of a stretch of the round moves, or the first that does and its choice
pub data Next : Type 0 where
  rests : Next
  moves : ℕ → Side → ℕ → Next

abbrev pub or_move : ℕ → Side → Option ℕ → Next → Next
or_move j s none x = x
or_move j s (some c) x = moves j s c

abbrev pub or_next : Next → Next → Next
or_next rests y = y
or_next (moves j s c) y = moves j s c

-- the first move of a round at job j or after it, where k jobs are left
unfoldable pub first_move : Search → Win → ℕ → ℕ → Next
first_move R W zero j = rests
first_move R W (suc k) j =
    let later = first_move R W k (suc j) in
    let other = or_move j late (R.best W j late) later in
    or_move j early (R.best W j early) other

-- the same from job j's side s on
unfoldable pub resume : Search → Win → ℕ → Side → Next
unfolding first_move
resume R W j early = first_move R W (R.n - j) j
resume R W j late = let later = first_move R W (R.n - suc j) (suc j) in or_move j late (R.best W j late) later

-- what is left of this round, else a whole round
unfoldable pub next_move : Search → Win → ℕ → Side → Next
unfolding resume
next_move R W j s = let again = first_move R W R.n 0 in or_next (resume R W j s) again

-- how the work ends: settled on windows, a clash of a job, or short of room
pub data Out : Type 0 where
  settled : Win → List Move → Out
  clash : ℕ → List Move → Out
  short : Out

abbrev pub push : Move → Out → Out
push m (settled W ms) = settled W (m ∷ ms)
push m (clash j ms) = clash j (m ∷ ms)
push m short = short

abbrev pub follow : Win → Next → (ℕ → Side → ℕ → Out) → Out
follow W rests f = settled W []
follow W (moves j s c) f = f j s c

abbrev pub ends : Bool → Out → Out → Out
ends true a b = a
ends false a b = b

-- the work from job j's side s on
unfoldable pub work : Search → ℕ → Win → ℕ → Side → Out
unfolding next_move
work R zero W j s = follow W (next_move R W j s) (λ i v c. short)
work R (suc room) W j s =
    follow W (next_move R W j s)
    (λ i v c.
    let U = after R W i v c in
    let rest = push (move W i v c) (work R room U i v) in
    ends (closes R.p U i) (clash i (move W i v c ∷ [])) rest)

-- the job, if any, clashes without a move
abbrev pub or_clash : Option ℕ → Out → Out
or_clash none o = o
or_clash (some j) o = clash j []

-- the whole run, from the first job's side 0; a window that is too short is a clash of the lowest such job
unfoldable pub run : Search → ℕ → Win → Out
unfolding lowest_too_short work
run R room W = let done = work R room W 0 early in or_clash (lowest_too_short R.n R.p W) done

-- the moves of an end, and their number
abbrev pub moves_of : Out → List Move
moves_of (settled W ms) = ms
moves_of (clash j ms) = ms
moves_of short = []

abbrev pub move_count : Out → ℕ
move_count o = length (moves_of o)

-- the windows that moves lead to: each moves one bound of one job
abbrev pub reached_by : Search → Win → List Move → Win
reached_by R W [] = W
reached_by R W (m ∷ ms) = reached_by R (after R W m.job m.side m.choice) ms

-- the moves that the work needs: those of the run with a quota that is always enough
unfoldable pub needed : Search → Win → ℕ
unfolding run slack
needed R W = move_count (run R (suc (slack R.p W R.n)) W)
