-- The work is document 01's order of work: literal rounds, given acts enough, come to the same end (`work_rounds`); so does the run where every
-- window is long enough (`run_rounds`). By induction on the room; within one room along the places of the round, which a round that has changed
-- nothing has all passed over.
use Prim.Native.Nat.{ℕ, zero, suc, ◌+◌, ◌-◌, ◌≤◌, ◌<◌}
use native.Mathlib.Omega.{arith}
use mathlib.Core.Path.{◌≡◌, refl, sym, ◌∙◌}
use mathlib.Core.Bool.{Bool, true, false}
use mathlib.Core.List.{[], ◌∷◌}
use mathlib.Core.Option.{Option, none, some}
use borrow.Author.Tests.{lt-ltb, le-ltb}
use Rattle.narrowing.specs.Windows.{Win, Side, early, late, Long, closes}
use Rattle.narrowing.specs.Search.{Search, move, after}
use Rattle.narrowing.specs.Run.{first_move, resume, Out, settled, clash, short, push, work, run}
use Rattle.narrowing.specs.Rounds.{next_job, other, rounds, Does}
use Rattle.narrowing.proofs.Next.{Place}
use Rattle.narrowing.proofs.TooShort.{run_long}
use Rattle.narrowing.proofs.Walk.{made, resume_early, resume_late, resume_end, resume_start, walk_early, walk_late, walk_round, walk_end, walk_move_early, walk_move_late}

module _ (R : Search) (room : ℕ) (changed : Bool) (W : Win) where
  does_settled : (j : ℕ) → R.n ≤ j → Does R room false j early W (settled W [])
  unfolding rounds
  does_settled j b = (1, go)
    where
      go : (g : ℕ) → 1 ≤ g → rounds R g room false j early W ≡ some (settled W [])
      go zero h = absurd (omega arith)
      go (suc g) h = rw (le-ltb j R.n b)

  does_anew : (j : ℕ) (o : Out) → R.n ≤ j → Does R room false 0 early W o → Does R room true j early W o
  unfolding rounds
  does_anew j o b d = (suc d.0, go)
    where
      go : (g : ℕ) → suc d.0 ≤ g → rounds R g room true j early W ≡ some o
      go zero h = absurd (omega arith)
      go (suc g) h = rw (le-ltb j R.n b) (d.1 g (omega arith))

  does_onward : (j : ℕ) (s : Side) (o : Out) → j < R.n → R.best W j s ≡ none → Does R room changed (next_job j s) (other s) W o → Does R room changed j s W o
  unfolding rounds
  does_onward j s o b e d = (suc d.0, go)
    where
      go : (g : ℕ) → suc d.0 ≤ g → rounds R g room changed j s W ≡ some o
      go zero h = absurd (omega arith)
      go (suc g) h = rw (lt-ltb j R.n b, e) (d.1 g (omega arith))

module _ (R : Search) (changed : Bool) (W : Win) (j : ℕ) (s : Side) (c : ℕ) (b : j < R.n) (e : R.best W j s ≡ some c) where
  does_short : Does R 0 changed j s W short
  unfolding rounds
  does_short = (1, go)
    where
      go : (g : ℕ) → 1 ≤ g → rounds R g 0 changed j s W ≡ some short
      go zero h = absurd (omega arith)
      go (suc g) h = rw (lt-ltb j R.n b, e)

  does_closing : (room : ℕ) → closes R.p (after R W j s c) j ≡ true → Does R (suc room) changed j s W (clash j (move W j s c ∷ []))
  unfolding rounds
  does_closing room z = (1, go)
    where
      go : (g : ℕ) → 1 ≤ g → rounds R g (suc room) changed j s W ≡ some (clash j (move W j s c ∷ []))
      go zero h = absurd (omega arith)
      go (suc g) h = rw (lt-ltb j R.n b, e, z)

  does_again : (room : ℕ) (o : Out) → closes R.p (after R W j s c) j ≡ false → Does R room true j s (after R W j s c) o
      → Does R (suc room) changed j s W (push (move W j s c) o)
  unfolding rounds
  does_again room o z d = (suc d.0, go)
    where
      go : (g : ℕ) → suc d.0 ≤ g → rounds R g (suc room) changed j s W ≡ some (push (move W j s c) o)
      go zero h = absurd (omega arith)
      go (suc g) h = rw (lt-ltb j R.n b, e, z, d.1 g (omega arith))

-- where less room is left the work goes on as the rounds do
Goes : Search → ℕ → Type 0
Goes R room = (W : Win) (j : ℕ) (s : Side) → Place R.n j s → Does R room true j s W (work R room W j s)

abbrev Before : Search → ℕ → Type 0
Before R zero = Unit {0}
Before R (suc room) = Goes R room

module _ (R : Search) (W : Win) where
  does_move : (room : ℕ) → Before R room → (changed : Bool) (j : ℕ) (s : Side) (c : ℕ) → j < R.n → Place R.n j s → R.best W j s ≡ some c
      → Does R room changed j s W (made R room W j s c)
  unfolding made Goes
  does_move zero h changed j s c b x e = does_short R changed W j s c b e
  does_move (suc room) h changed j s c b x e = go (closes R.p (after R W j s c) j) refl
    where
      go : (t : Bool) → closes R.p (after R W j s c) j ≡ t → Does R (suc room) changed j s W (made R (suc room) W j s c)
      go true z = rw z (does_closing R changed W j s c b e room z)
      go false z = rw z (does_again R changed W j s c b e room _ z (h (after R W j s c) j s x))

  module _ (room : ℕ) (before : Before R room) (changed : Bool) (Q : ℕ → Type 0)
      (on : (j : ℕ) → j < R.n → R.best W j early ≡ none → R.best W j late ≡ none → Q j → Q (suc j))
      (end : Q R.n → Does R room changed R.n early W (work R room W R.n early)) where
    from_late : (j : ℕ) → j < R.n → (x : Option ℕ) → R.best W j late ≡ x
        → (R.best W j late ≡ none → Does R room changed (suc j) early W (work R room W (suc j) early)) → Does R room changed j late W (work R room W j late)
    from_late j b none e f = rw (walk_late R room W j e) (does_onward R room changed W j late _ b e (f e))
    from_late j b (some c) e f = rw (walk_move_late R room W j c e) (does_move room before changed j late c b b e)

    from_early : (j : ℕ) → j < R.n → (x : Option ℕ) → R.best W j early ≡ x
        → (R.best W j early ≡ none → Does R room changed j late W (work R room W j late)) → Does R room changed j early W (work R room W j early)
    from_early j b none e f = rw (walk_early R room W j b e) (does_onward R room changed W j early _ b e (f e))
    from_early j b (some c) e f = rw (walk_move_early R room W j c b e) (does_move room before changed j early c b (omega arith) e)

    along : (k j : ℕ) → j + k ≡ R.n → Q j → Does R room changed j early W (work R room W j early)
    along zero j e q =
        let z : j ≡ R.n = omega arith in
        rw z (end (rw z at q))
    along (suc k) j e q =
        from_early j (omega arith) (R.best W j early) refl
        (λ x. from_late j (omega arith) (R.best W j late) refl (λ y. along k (suc j) (omega arith) (on j (omega arith) x y q)))

  module _ (room : ℕ) (before : Before R room) where
    -- a round that has changed nothing so far: what is left of it is all that the whole round has
    unchanged : Does R room false 0 early W (work R room W 0 early)
    unchanged =
        along room before false (λ j. first_move R W R.n 0 ≡ resume R W j early)
        (λ j b x y q. q ∙ resume_early R room W j b x ∙ resume_late R room W j y)
        (λ q. rw (walk_end R room W (q ∙ resume_end R room W)) (does_settled R room false W R.n (omega arith)))
        R.n 0 (omega arith) (sym (resume_start R room W))

    at-end : Does R room true R.n early W (work R room W R.n early)
    at-end = rw (walk_round R room W) (does_anew R room true W R.n _ (omega arith) unchanged)

    from_job : (j : ℕ) → j ≤ R.n → Does R room true j early W (work R room W j early)
    from_job j b = along room before true (λ j. Unit {0}) (λ j b x y q. tt) (λ q. at-end) (R.n - j) j (omega arith) tt

    goes_on : (j : ℕ) (s : Side) → Place R.n j s → Does R room true j s W (work R room W j s)
    goes_on j early b = from_job j b
    goes_on j late b =
        from_late room before true (λ j. Unit {0}) (λ j b x y q. tt) (λ q. at-end) j b (R.best W j late) refl (λ e. from_job (suc j) b)

all_before : (R : Search) (room : ℕ) → Before R room
unfolding Goes
all_before R zero = tt
all_before R (suc room) = λ W j s b. goes_on R W room (all_before R room) j s b

pub work_rounds : (R : Search) (room : ℕ) (W : Win) → Does R room false 0 early W (work R room W 0 early)
work_rounds R room W = unchanged R W room (all_before R room)

pub run_rounds : (R : Search) (room : ℕ) (W : Win) → Long R.n R.p W → Does R room false 0 early W (run R room W)
run_rounds R room W L = rw (run_long R room W L) (work_rounds R room W)
