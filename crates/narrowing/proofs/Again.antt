-- What a run leaves: the windows that its moves lead to, on lists as long as before, with the closing move last in a clash, or none where a window
-- was too short; and windows that a second run leaves alone.
use Prim.Native.Nat.{ℕ, zero, suc}
use native.Mathlib.Omega.{arith}
use mathlib.Core.Path.{◌≡◌, refl, ap, ◌∙◌}
use mathlib.Core.List.{List, [], ◌∷◌}
use lib.ListN.{length, length-set, length-append}
use borrow.Author.Tests.{ltb-true}
use Rattle.narrowing.specs.Windows.{Win, Side, early, late, Long, moved}
use Rattle.narrowing.specs.Rules.{Family, Stable}
use Rattle.narrowing.specs.Search.{Search, Searches, Move, move, after}
use Rattle.narrowing.specs.Led.{SameLengths, Led, Closes, Reached}
use Rattle.narrowing.specs.Run.{Next, rests, moves, next_move, Out, settled, clash, short, push, follow, work, run}
use Rattle.narrowing.proofs.Next.{Ahead, next-is}
use Rattle.narrowing.proofs.Runs.{work_ind}
use Rattle.narrowing.proofs.TooShort.{run_long, run_by}

moved_lengths : (W : Win) (j : ℕ) (s : Side) (b : ℕ) → SameLengths W (moved W j s b)
moved_lengths W j early b = record { early = rw length-set; late = refl }
moved_lengths W j late b = record { early = refl; late = rw length-set }

lengths_trans : (A B C : Win) → SameLengths A B → SameLengths B C → SameLengths A C
lengths_trans A B C f g = record { early = g.early ∙ f.early; late = g.late ∙ f.late }

module _ (R : Search) (G : Family) (search : Searches R G) where
  -- what the work reaches: settled windows, or a closing move
  abbrev Closed : Win → Out → Type 0
  Closed W (settled U ms) = Led R W ms U
  Closed W (clash j ms) = Closes R W ms j
  Closed W short = Unit {0}

  push_reached : (W : Win) (j : ℕ) (s : Side) (c : ℕ) (o : Out) → Closed (after R W j s c) o → Closed W (push (move W j s c) o)
  push_reached W j s c (settled U ms) g = record { lengths = lengths_trans W (after R W j s c) U (moved_lengths W j s (R.bound s c)) g.lengths; led = g.led }
  push_reached W j s c (clash i ms) g =
      record { before = move W j s c ∷ g.before; last = g.last; closing = ap (λ (ns : List Move). move W j s c ∷ ns) g.closing; held = g.held; job = g.job; closed = g.closed }
  push_reached W j s c short g = tt

  work_closed : (room : ℕ) (W : Win) → Long R.n R.p W → Closed W (work R room W 0 early)
  work_closed room W L =
      work_ind R G search (λ room W j s o. Closed W o)
      (λ room W j s L q. record { lengths = record { early = refl; late = refl }; led = refl })
      (λ W j s i v c L a. tt)
      (λ room W j s i v c L a e. record { before = []; last = move W i v c; closing = refl; held = L; job = refl; closed = ltb-true _ _ e })
      (λ room W j s i v c o L a e g. push_reached W i v c o g)
      room W 0 early L (omega arith)

  -- a closing move is a move
  closed_reached : (W : Win) (o : Out) → Long R.n R.p W → Closed W o → Reached R W o
  closed_reached W (settled U ms) L g = g
  closed_reached W (clash j []) L g = absurd (omega (arith, ap length g.closing ∙ length-append g.before (g.last ∷ [])))
  closed_reached W (clash j (m ∷ ms)) L g = (L, g)
  closed_reached W short L g = tt

  pub run_reached : (room : ℕ) (W : Win) → Reached R W (run R room W)
  run_reached room W = run_by R room W (Reached R W) (λ L. closed_reached W (work R room W 0 early) L (work_closed room W L)) (λ j s. s)

  work_rests : (room : ℕ) (W : Win) → Long R.n R.p W → Stable R.n G W → work R room W 0 early ≡ settled W []
  unfolding work Stable
  work_rests zero W L q = go (next_move R W 0 early) (next-is R G search W L 0 early (omega arith))
    where
      go : (x : Next) → Ahead R G search W L 0 early x → follow W x (λ i v c. short) ≡ settled W []
      go rests h = refl
      go (moves i v c) h = absurd (q i v (R.bound v c) h.listed h.applies)
  work_rests (suc room) W L q = go (next_move R W 0 early) (next-is R G search W L 0 early (omega arith)) _
    where
      go : (x : Next) → Ahead R G search W L 0 early x → (f : ℕ → Side → ℕ → Out) → follow W x f ≡ settled W []
      go rests h f = refl
      go (moves i v c) h f = absurd (q i v (R.bound v c) h.listed h.applies)

  -- where every window is long enough and no rule applies the run settles at once, whatever the room
  pub run_rests : (room : ℕ) (W : Win) → Long R.n R.p W → Stable R.n G W → run R room W ≡ settled W []
  run_rests room W L q = run_long R room W L ∙ work_rests room W L q
