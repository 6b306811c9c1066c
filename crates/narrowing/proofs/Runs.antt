-- The defined run over lawful rules, on any windows: "settled" is the largest candidate, "clash" says that there is none, the slack bounds the
-- moves, and each move is the search's own choice.
use Prim.Native.Nat.{ℕ, zero, suc, ◌≤◌, ◌<◌}
use native.Mathlib.Omega.{arith}
use mathlib.Core.Path.{◌≡◌, refl, subst}
use mathlib.Core.Bool.{Bool, true, false}
use mathlib.Core.List.{List, [], ◌∷◌}
use lib.ListN.{length}
use borrow.Author.Tests.{lt-ltb}
use Rattle.narrowing.specs.Windows.{Win, Side, early, Long, closes, slack}
use Rattle.narrowing.specs.Rules.{Family, Stable, Lawful, Largest, NoCandidate, Step, Steps, here, next}
use Rattle.narrowing.specs.Search.{Search, Searches, Move, move, after}
use Rattle.narrowing.specs.Run.{Next, rests, moves, next_move, Out, settled, clash, short, push, follow, ends, work, run, moves_of}
use Rattle.narrowing.specs.Rounds.{Choice, Chosen}
use Rattle.narrowing.proofs.Moves.{long_after, Whole, whole_after, slack_less}
use Rattle.narrowing.proofs.Steps.{step_move, any_settled, any_clash}
use Rattle.narrowing.proofs.Next.{Place, place_of_lem, Ahead, next-is}
use Rattle.narrowing.proofs.TooShort.{run_by}

-- what an end says of the windows W that the work began on
abbrev pub Good : ℕ → List ℕ → Family → Win → Out → Type 0
Good n p G W (settled U ms) = Largest n p G W U
Good n p G W (clash j ms) = NoCandidate n p G W
Good n p G W short = Unit {0}

-- how many moves an end has, by the room and the slack of the windows W
abbrev pub Bounded : Search → ℕ → Win → Out → Type 0
Bounded R room W (settled U ms) = (length ms ≤ slack R.p W R.n) × (length ms ≤ room)
Bounded R room W (clash j ms) = (length ms ≤ suc (slack R.p W R.n)) × (length ms ≤ room)
Bounded R room W short = room ≤ slack R.p W R.n

module _ (R : Search) (G : Family) (search : Searches R G) where
  -- ---- induction over the work: what holds where it rests, short of room and at a closing move, and is kept by each other move, holds of its end

  module _ (P : ℕ → Win → ℕ → Side → Out → Type 0)
      (rest : (room : ℕ) (W : Win) (j : ℕ) (s : Side) → Long R.n R.p W → Stable R.n G W → P room W j s (settled W []))
      (full : (W : Win) (j : ℕ) (s : Side) (i : ℕ) (v : Side) (c : ℕ) → Long R.n R.p W → Choice R G W j s (move W i v c) → P 0 W j s short)
      (stop : (room : ℕ) (W : Win) (j : ℕ) (s : Side) (i : ℕ) (v : Side) (c : ℕ) → Long R.n R.p W → Choice R G W j s (move W i v c)
      → closes R.p (after R W i v c) i ≡ true → P (suc room) W j s (clash i (move W i v c ∷ [])))
      (step : (room : ℕ) (W : Win) (j : ℕ) (s : Side) (i : ℕ) (v : Side) (c : ℕ) (o : Out) → Long R.n R.p W → Choice R G W j s (move W i v c)
      → closes R.p (after R W i v c) i ≡ false → P room (after R W i v c) i v o → P (suc room) W j s (push (move W i v c) o)) where
    ind_follow : (room : ℕ) (W : Win) (L : Long R.n R.p W) (j : ℕ) (s : Side) (x : Next) (f : ℕ → Side → ℕ → Out) → Ahead R G search W L j s x
        → ((i : ℕ) (v : Side) (c : ℕ) → Choice R G W j s (move W i v c) → P room W j s (f i v c)) → P room W j s (follow W x f)
    ind_follow room W L j s rests f q g = rest room W j s L q
    ind_follow room W L j s (moves i v c) f q g = g i v c q

    ind_ends : (room : ℕ) (W : Win) (j : ℕ) (s : Side) (a b : Out) (t v : Bool) → v ≡ t → (v ≡ true → P room W j s a) → (v ≡ false → P room W j s b) → P room W j s (ends t a b)
    ind_ends room W j s a b true v e f g = f e
    ind_ends room W j s a b false v e f g = g e

    pub work_ind : (room : ℕ) (W : Win) (j : ℕ) (s : Side) → Long R.n R.p W → Place R.n j s → P room W j s (work R room W j s)
    unfolding work
    work_ind zero W j s L b = ind_follow 0 W L j s (next_move R W j s) _ (next-is R G search W L j s b) (λ i v c a. full W j s i v c L a)
    work_ind (suc room) W j s L b =
        ind_follow (suc room) W L j s (next_move R W j s) _ (next-is R G search W L j s b)
        (λ i v c a.
        ind_ends (suc room) W j s _ _ (closes R.p (after R W i v c) i) (closes R.p (after R W i v c) i) refl
        (λ e. stop room W j s i v c L a e)
        (λ e. step room W j s i v c (work R room (after R W i v c) i v) L a e
        (work_ind room (after R W i v c) i v (long_after R.n R.p W i v (R.bound v c) L e) (place_of_lem R.n i v a.listed))))

  -- ---- each move is the search's own choice

  push_chosen : (W : Win) (j : ℕ) (s : Side) (m : Move) (o : Out) → Choice R G W j s m
      → Chosen R G (after R W m.job m.side m.choice) m.job m.side (moves_of o) → Chosen R G W j s (moves_of (push m o))
  push_chosen W j s m (settled U ms) a g = (a, g)
  push_chosen W j s m (clash i ms) a g = (a, g)
  push_chosen W j s m short a g = tt

  work_chosen : (room : ℕ) (W : Win) (j : ℕ) (s : Side) → Long R.n R.p W → Place R.n j s → Chosen R G W j s (moves_of (work R room W j s))
  work_chosen =
      work_ind (λ room W j s o. Chosen R G W j s (moves_of o))
      (λ room W j s L q. tt)
      (λ W j s i v c L a. tt)
      (λ room W j s i v c L a e. (a, tt))
      (λ room W j s i v c o L a e g. push_chosen W j s (move W i v c) o a g)

  pub run_chosen : (room : ℕ) (W : Win) → Chosen R G W 0 early (moves_of (run R room W))
  run_chosen room W = run_by R room W (λ o. Chosen R G W 0 early (moves_of o)) (λ L. work_chosen room W 0 early L (omega arith)) (λ j s. tt)

  module _ (law : Lawful R.n G) where
    -- ---- the run is one of the ways of Steps: moves of rules to where none applies, or to a closed window

    abbrev pub Way : Win → Out → Type 0
    Way W (settled U ms) = Steps R.n R.p G W U × Stable R.n G U × Long R.n R.p U
    Way W (clash j ms) = (U : Win) × Steps R.n R.p G W U × (j < R.n) × (closes R.p U j ≡ true)
    Way W short = Unit {0}

    push_way : (W U : Win) (m : Move) → Step R.n R.p G W U → (o : Out) → Way U o → Way W (push m o)
    push_way W U m f (settled X ms) g = (next f g.0, g.1, g.2)
    push_way W U m f (clash k ms) g = (g.0, next f g.1, g.2, g.3)
    push_way W U m f short g = tt

    by_choice_lem : (W : Win) (j : ℕ) (s : Side) (i : ℕ) (v : Side) (c : ℕ) → Choice R G W j s (move W i v c) → Step R.n R.p G W (after R W i v c)
    by_choice_lem W j s i v c a = step_move R.n R.p G law W i v (R.bound v c) a.listed a.applies

    work_way : (room : ℕ) (W : Win) (j : ℕ) (s : Side) → Long R.n R.p W → Place R.n j s → Way W (work R room W j s)
    work_way =
        work_ind (λ room W j s o. Way W o)
        (λ room W j s L q. (here, q, L))
        (λ W j s i v c L a. tt)
        (λ room W j s i v c L a e. (after R W i v c, next (by_choice_lem W j s i v c a) here, a.listed, e))
        (λ room W j s i v c o L a e g. push_way W (after R W i v c) (move W i v c) (by_choice_lem W j s i v c a) o g)

    pub run_way : (room : ℕ) (W : Win) → Way W (run R room W)
    run_way room W = run_by R room W (Way W) (λ L. work_way room W 0 early L (omega arith)) (λ j s. (W, here, s.listed, lt-ltb _ _ s.shorter))

    way_good : (W : Win) (o : Out) → Way W o → Good R.n R.p G W o
    way_good W (settled U ms) g = any_settled R.n R.p G g.0 g.1 g.2
    way_good W (clash j ms) g = any_clash R.n R.p G g.1 j g.2 g.3
    way_good W short g = tt

    pub run_good : (room : ℕ) (W : Win) → Good R.n R.p G W (run R room W)
    run_good room W = way_good W (run R room W) (run_way room W)

    -- ---- how many moves

    push_bounded : (room : ℕ) (W U : Win) (m : Move) (o : Out) → suc (slack R.p U R.n) ≤ slack R.p W R.n
        → Bounded R room U o → Bounded R (suc room) W (push m o)
    push_bounded room W U m (settled X ms) d q = omega arith
    push_bounded room W U m (clash j ms) d q = omega arith
    push_bounded room W U m short d q = omega arith

    work_bounded : (room : ℕ) (W : Win) (j : ℕ) (s : Side) → Long R.n R.p W → Place R.n j s → Whole R.n W → Bounded R room W (work R room W j s)
    work_bounded =
        work_ind (λ room W j s o. Whole R.n W → Bounded R room W o)
        (λ room W j s L q h. omega arith)
        (λ W j s i v c L a h. omega arith)
        (λ room W j s i v c L a e h. omega arith)
        (λ room W j s i v c o L a e g h.
        push_bounded room W (after R W i v c) (move W i v c) o
        (slack_less R.n R.p W i v (R.bound v c) a.listed h (law.tighter W i v (R.bound v c) a.listed a.applies) e R.n a.listed)
        (g (whole_after R.n W i v (R.bound v c) h)))

    -- at most the slack, and one more in a clash; short of room only where the room is at most the slack
    pub run_bounded : (room : ℕ) (W : Win) → Whole R.n W → Bounded R room W (run R room W)
    run_bounded room W h = run_by R room W (Bounded R room W) (λ L. work_bounded room W 0 early L (omega arith) h) (λ j s. omega arith)

    pub never_short : (room : ℕ) (W : Win) → Whole R.n W → slack R.p W R.n < room → run R room W ≡ short → ⊥
    never_short room W h d e =
        let q : room ≤ slack R.p W R.n = subst (Bounded R room W) e (run_bounded room W h) in
        omega arith
