-- The work, place by place, as a program walks it: a job's side 0 until it rests, its side 1 likewise, the next job, the next round.
use Prim.Native.Nat.{ℕ, zero, suc, ◌-◌, ◌<◌}
use native.Mathlib.Omega.{arith}
use mathlib.Core.Path.{◌≡◌, refl, sym, ap, ◌∙◌}
use mathlib.Core.List.{List, [], ◌∷◌, ◌++◌}
use mathlib.Core.Option.{none, some}
use Rattle.narrowing.specs.Windows.{Win, Side, early, late, closes}
use Rattle.narrowing.specs.Search.{Search, Move, move, after}
use Rattle.narrowing.specs.Run.{Next, rests, moves, or_move, or_next, first_move, resume, next_move, Out, settled, clash, short, push, follow, ends, work}

-- what a move comes to, if there is room
unfoldable pub made : Search → ℕ → Win → ℕ → Side → ℕ → Out
made R zero W j s c = short
made R (suc room) W j s c =
    ends (closes R.p (after R W j s c) j) (clash j (move W j s c ∷ [])) (push (move W j s c) (work R room (after R W j s c) j s))

work_follow : (R : Search) (room : ℕ) (W : Win) (j : ℕ) (s : Side) → work R room W j s ≡ follow W (next_move R W j s) (made R room W)
unfolding work made
work_follow R zero W j s = refl
work_follow R (suc room) W j s = refl

or_again : (x : Next) → or_next x x ≡ x
or_again rests = refl
or_again (moves j s t) = refl

module _ (R : Search) (room : ℕ) (W : Win) where
  by_next : (j i : ℕ) (s v : Side) → next_move R W j s ≡ next_move R W i v → work R room W j s ≡ work R room W i v
  by_next j i s v e = rw (work_follow R room W j s, work_follow R room W i v, e)

  first_suc : (j : ℕ) → j < R.n
      → first_move R W (R.n - j) j ≡ or_move j early (R.best W j early) (or_move j late (R.best W j late) (first_move R W (R.n - suc j) (suc j)))
  unfolding first_move
  first_suc j b = let e : R.n - j ≡ suc (R.n - suc j) = omega arith in ap (λ (k : ℕ). first_move R W k j) e

  -- what is left of a round: past a side that rests, at its end and at its start
  pub resume_early : (j : ℕ) → j < R.n → R.best W j early ≡ none → resume R W j early ≡ resume R W j late
  unfolding resume
  resume_early j b e = rw (first_suc j b, e)

  pub resume_late : (j : ℕ) → R.best W j late ≡ none → resume R W j late ≡ resume R W (suc j) early
  unfolding resume
  resume_late j e = rw e

  pub resume_end : resume R W R.n early ≡ rests
  unfolding resume first_move
  resume_end = let e : R.n - R.n ≡ 0 = omega arith in rw e

  pub resume_start : resume R W 0 early ≡ first_move R W R.n 0
  unfolding resume
  resume_start = let e : R.n - 0 ≡ R.n = omega arith in rw e

  next_early : (j : ℕ) → j < R.n → R.best W j early ≡ none → next_move R W j early ≡ next_move R W j late
  unfolding next_move
  next_early j b e = rw (resume_early j b e)

  next_late : (j : ℕ) → R.best W j late ≡ none → next_move R W j late ≡ next_move R W (suc j) early
  unfolding next_move
  next_late j e = rw (resume_late j e)

  next_round : next_move R W R.n early ≡ first_move R W R.n 0
  unfolding next_move resume first_move
  next_round = let e : R.n - R.n ≡ 0 = omega arith in rw e

  next_start : next_move R W 0 early ≡ first_move R W R.n 0
  unfolding next_move resume
  next_start = let e : R.n - 0 ≡ R.n = omega arith in rw e (or_again (first_move R W R.n 0))

  pub walk_early : (j : ℕ) → j < R.n → R.best W j early ≡ none → work R room W j early ≡ work R room W j late
  walk_early j b e = by_next j j early late (next_early j b e)

  pub walk_late : (j : ℕ) → R.best W j late ≡ none → work R room W j late ≡ work R room W (suc j) early
  walk_late j e = by_next j (suc j) late early (next_late j e)

  pub walk_round : work R room W R.n early ≡ work R room W 0 early
  walk_round = by_next R.n 0 early early (next_round ∙ sym next_start)

  pub walk_end : first_move R W R.n 0 ≡ rests → work R room W R.n early ≡ settled W []
  walk_end e = rw (work_follow R room W R.n early, next_round, e)

  pub walk_move_early : (j c : ℕ) → j < R.n → R.best W j early ≡ some c → work R room W j early ≡ made R room W j early c
  unfolding next_move resume
  walk_move_early j c b e = rw (work_follow R room W j early, first_suc j b, e)

  pub walk_move_late : (j c : ℕ) → R.best W j late ≡ some c → work R room W j late ≡ made R room W j late c
  unfolding next_move resume
  walk_move_late j c e = rw (work_follow R room W j late, e)

-- ---- moves made before those that the work still gives

unfoldable pub written : List Move → Out → Out
written [] o = o
written (x ∷ xs) o = push x (written xs o)

pub written_push : (rs : List Move) (x : Move) (o : Out) → written rs (push x o) ≡ written (rs ++ x ∷ []) o
unfolding written
written_push [] x o = refl
written_push (y ∷ ys) x o = ap (push y) (written_push ys x o)

pub written_settled : (rs : List Move) (U : Win) → written rs (settled U []) ≡ settled U rs
unfolding written
written_settled [] U = refl
written_settled (y ∷ ys) U = ap (push y) (written_settled ys U)

pub written_clash : (rs : List Move) (j : ℕ) (x : Move) → written rs (clash j (x ∷ [])) ≡ clash j (rs ++ x ∷ [])
unfolding written
written_clash [] j x = refl
written_clash (y ∷ ys) j x = ap (push y) (written_clash ys j x)

pub written_more : (rs : List Move) → written rs short ≡ short
unfolding written
written_more [] = refl
written_more (y ∷ ys) = ap (push y) (written_more ys)
