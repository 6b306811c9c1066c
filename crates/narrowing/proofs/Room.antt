-- Room: the work falls short exactly where the room is below the number of moves needed, and more room changes no other end.
use Prim.Native.Nat.{ℕ, zero, suc, ◌≤◌, ◌<◌}
use native.Mathlib.Omega.{arith}
use native.Mathlib.Decide.{dec_lt}
use mathlib.Core.Path.{◌≡◌, refl, ap}
use mathlib.Core.Bool.{Bool, true, false}
use mathlib.Core.List.{[], ◌∷◌}
use mathlib.Core.Option.{Option, none, some}
use Rattle.narrowing.specs.Windows.{Win, Side, early, closes, slack, lowest_too_short}
use Rattle.narrowing.specs.Rules.{Family, Lawful}
use Rattle.narrowing.specs.Search.{Search, Searches, Move, move, after}
use Rattle.narrowing.specs.Run.{Next, rests, moves, next_move, Out, settled, clash, short, push, follow, ends, or_clash, work, run, move_count, needed}
use Rattle.narrowing.proofs.Moves.{Whole}
use Rattle.narrowing.proofs.Runs.{never_short}

-- not short of room
abbrev pub Ended : Out → Type 0
Ended (settled U ms) = Unit {0}
Ended (clash j ms) = Unit {0}
Ended short = ⊥

pub ended_not : (o : Out) → Ended o → o ≡ short → ⊥
ended_not (settled U ms) h e = let z : ◌≡◌ {A = ℕ} 0 1 = cc in omega arith
ended_not (clash j ms) h e = let z : ◌≡◌ {A = ℕ} 0 1 = cc in omega arith
ended_not short h e = h

pub not_ended : (o : Out) → (o ≡ short → ⊥) → Ended o
not_ended (settled U ms) f = tt
not_ended (clash j ms) f = tt
not_ended short f = f refl

-- o is what the work comes to with a room, u with another: the same where o's moves fit, else short
abbrev Fits : ℕ → Out → Out → Type 0
Fits room o u = (move_count o ≤ room → u ≡ o) × (room < move_count o → u ≡ short)

fits_push : (room : ℕ) (m : Move) (o u : Out) → Ended o → Fits room o u → Fits (suc room) (push m o) (push m u)
fits_push room m (settled U ms) u h f = (λ b. ap (push m) (f.0 (omega arith)), λ b. ap (push m) (f.1 (omega arith)))
fits_push room m (clash j ms) u h f = (λ b. ap (push m) (f.0 (omega arith)), λ b. ap (push m) (f.1 (omega arith)))
fits_push room m short u h f = absurd h

ended_push : (m : Move) (o : Out) → Ended (push m o) → Ended o
ended_push m (settled U ms) h = tt
ended_push m (clash j ms) h = tt
ended_push m short h = h

some_push : (m : Move) (o : Out) → Ended o → 0 < move_count (push m o)
some_push m (settled U ms) h = omega arith
some_push m (clash j ms) h = omega arith
some_push m short h = absurd h

fits_follow : (room : ℕ) (W : Win) (x : Next) (f g : ℕ → Side → ℕ → Out)
    → ((i : ℕ) (v : Side) (c : ℕ) → Ended (f i v c) → Fits room (f i v c) (g i v c)) → Ended (follow W x f) → Fits room (follow W x f) (follow W x g)
fits_follow room W rests f g h e = (λ b. refl, λ b. absurd (omega arith))
fits_follow room W (moves i v c) f g h e = h i v c e

fits_ends : (room : ℕ) (t : Bool) (i : ℕ) (m : Move) (o u : Out) → (Ended o → Fits (suc room) o u) → Ended (ends t (clash i (m ∷ [])) o)
    → Fits (suc room) (ends t (clash i (m ∷ [])) o) (ends t (clash i (m ∷ [])) u)
fits_ends room true i m o u h e = (λ b. refl, λ b. absurd (omega arith))
fits_ends room false i m o u h e = h e

none_fits : (t : Bool) (i : ℕ) (m : Move) (o : Out) → Ended (ends t (clash i (m ∷ [])) (push m o)) → Fits 0 (ends t (clash i (m ∷ [])) (push m o)) short
none_fits true i m o e = (λ b. absurd (omega arith), λ b. refl)
none_fits false i m o e = (λ b. absurd (omega (arith, some_push m o (ended_push m o e))), λ b. refl)

work_fits : (R : Search) (a room : ℕ) (W : Win) (j : ℕ) (s : Side) → Ended (work R a W j s) → Fits room (work R a W j s) (work R room W j s)
unfolding work
work_fits R zero zero W j s e = fits_follow 0 W (next_move R W j s) _ _ (λ i v c h. absurd h) e
work_fits R zero (suc room) W j s e = fits_follow (suc room) W (next_move R W j s) _ _ (λ i v c h. absurd h) e
work_fits R (suc a) zero W j s e =
    fits_follow 0 W (next_move R W j s) _ _
    (λ i v c h. none_fits (closes R.p (after R W i v c) i) i (move W i v c) (work R a (after R W i v c) i v) h)
    e
work_fits R (suc a) (suc room) W j s e =
    fits_follow (suc room) W (next_move R W j s) _ _
    (λ i v c h.
    fits_ends room (closes R.p (after R W i v c) i) i (move W i v c) _ _
    (λ q. fits_push room (move W i v c) _ _ (ended_push (move W i v c) (work R a (after R W i v c) i v) q)
    (work_fits R a room (after R W i v c) i v (ended_push (move W i v c) (work R a (after R W i v c) i v) q)))
    h)
    e

fits_clash : (room : ℕ) (x : Option ℕ) (o u : Out) → (Ended o → Fits room o u) → Ended (or_clash x o) → Fits room (or_clash x o) (or_clash x u)
fits_clash room none o u h e = h e
fits_clash room (some j) o u h e = (λ b. refl, λ b. absurd (omega arith))

run_fits : (R : Search) (a room : ℕ) (W : Win) → Ended (run R a W) → Fits room (run R a W) (run R room W)
unfolding run
run_fits R a room W e = fits_clash room (lowest_too_short R.n R.p W) _ _ (work_fits R a room W 0 early) e

module _ (R : Search) (G : Family) (search : Searches R G) (law : Lawful R.n G) (W : Win) (h : Whole R.n W) where
  enough : Ended (run R (suc (slack R.p W R.n)) W)
  enough = not_ended (run R (suc (slack R.p W R.n)) W) (never_short R G search law (suc (slack R.p W R.n)) W h (omega arith))

  all_fits : (room : ℕ) → Fits room (run R (suc (slack R.p W R.n)) W) (run R room W)
  all_fits room = run_fits R (suc (slack R.p W R.n)) room W enough

  -- short of room exactly where the room is below the number
  pub short_below : (room : ℕ) → run R room W ≡ short → room < needed R W
  unfolding needed
  short_below room e =
      elim (dec_lt room (move_count (run R (suc (slack R.p W R.n)) W))) [
        | yes b ↦ b
        | no b ↦ absurd (ended_not (run R (suc (slack R.p W R.n)) W) enough (cc ((all_fits room).0 (omega arith))))
      ]

  pub below_short : (room : ℕ) → room < needed R W → run R room W ≡ short
  unfolding needed
  below_short room b = (all_fits room).1 b

  -- a room that is enough gives an end with as many moves as are needed
  pub count_needed : (room : ℕ) → needed R W ≤ room → move_count (run R room W) ≡ needed R W
  unfolding needed
  count_needed room a = ap (λ (o : Out). move_count o) ((all_fits room).0 a)
