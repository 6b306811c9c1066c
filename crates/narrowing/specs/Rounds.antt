-- Document 01's order of work, literally, for any search: rounds over the jobs by rising number; for each job side 0 again and again until
-- it does not apply, then side 1 likewise; until a round changes nothing, or a move closes a window. And what is known of each move.
use Rattle.std.specs.Prelude.{ℕ, zero, suc, ◌+◌, ◌*◌, ◌≤◌, ◌<◌, ◌≡◌, Bool, true, false, List, [], ◌∷◌, ◌⊎◌, ltb}
use Rattle.std.proofs.Math.Option.{Option, none, some}
use Rattle.narrowing.specs.Windows.{Win, Side, early, late, closes, number}
use Rattle.narrowing.specs.Rules.{Family}
use Rattle.narrowing.specs.Search.{Search, Move, after, move}
use Rattle.narrowing.specs.Run.{Out, settled, clash, short, push}

-- the place after job j's side s: side 1 after side 0, the next job's side 0 after side 1
abbrev pub next_job : ℕ → Side → ℕ
next_job j early = j
next_job j late = suc j

abbrev pub other : Side → Side
other early = late
other late = early

abbrev pub if : Bool → Option Out → Option Out → Option Out
if true x y = x
if false x y = y

-- what the side does: it moves by c, or it does not apply
abbrev pub by_choice : Option ℕ → (ℕ → Option Out) → Option Out → Option Out
by_choice none f x = x
by_choice (some c) f x = f c

-- a move takes one of the room
abbrev pub spend : ℕ → (ℕ → Option Out) → Option Out
spend zero f = some short
spend (suc left) f = f left

abbrev pub pushed : Move → Option Out → Option Out
pushed m none = none
pushed m (some o) = some (push m o)

-- the work from job j's side s on, in at most so many acts (none where it takes more); `changed` says whether this round has moved a bound
unfoldable pub rounds : Search → ℕ → ℕ → Bool → ℕ → Side → Win → Option Out
rounds R zero room changed j s W = none
rounds R (suc acts) room changed j s W =
    let moves : ℕ → Option Out = λ c. spend room (λ left.
    let U = after R W j s c in
    let again = pushed (move W j s c) (rounds R acts left true j s U) in
    if (closes R.p U j) (some (clash j (move W j s c ∷ []))) again) in
    let onward = rounds R acts room changed (next_job j s) (other s) W in
    let anew = rounds R acts room false 0 early W in
    let over = if changed anew (some (settled W [])) in
    if (ltb j R.n) (by_choice (R.best W j s) moves onward) over

-- with acts enough the rounds come to o
abbrev pub Does : Search → ℕ → Bool → ℕ → Side → Win → Out → Type 0
Does R room changed j s W o = (f : ℕ) × ((g : ℕ) → f ≤ g → rounds R g room changed j s W ≡ some o)

-- ---- what is known of each move

-- the places of a round in their order
abbrev pub place_of : ℕ → Side → ℕ
place_of j s = 2 * j + number s

-- the place x is passed over on the way from a to b, in this round or by way of the next one
abbrev pub Passed : ℕ → ℕ → ℕ → Type 0
Passed a b x = ((a ≤ x) × (x < b)) ⊎ ((b < a) × ((a ≤ x) ⊎ (x < b)))

-- the move m on the windows W, after the place of job j's side s: the search's own choice, and no rule applied at any place passed over
pub record Choice (R : Search) (G : Family) (W : Win) (j : ℕ) (s : Side) (m : Move) : Type 0 where
  pub before : m.before ≡ W
  pub listed : m.job < R.n
  pub chosen : R.best W m.job m.side ≡ some m.choice
  pub applies : G W m.job m.side (R.bound m.side m.choice)
  pub passed : (k : ℕ) (u : Side) → k < R.n → Passed (place_of j s) (place_of m.job m.side) (place_of k u) → (c : ℕ) → G W k u c → ⊥

-- each move so, on the windows that the moves before it left, after the place of the last one
abbrev pub Chosen : Search → Family → Win → ℕ → Side → List Move → Type 0
Chosen R G W j s [] = Unit {0}
Chosen R G W j s (m ∷ ms) = Choice R G W j s m × Chosen R G (after R W m.job m.side m.choice) m.job m.side ms
