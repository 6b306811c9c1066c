-- The state of a loop that narrows, for any search: the windows, the place, the moves and their count reached from the windows at first. Each law is one
-- answer of a turn; the windows after a move are the turn's own.
use Prim.Native.Nat.{ℕ, ◌+◌, ◌≤◌, ◌<◌}
use native.Mathlib.Omega.{arith}
use native.Mathlib.Decide.{dec_lt}
use mathlib.Core.Path.{◌≡◌, refl, sym, subst, ◌∙◌}
use mathlib.Core.Bool.{true, false}
use mathlib.Core.List.{List, [], ◌∷◌, ◌++◌}
use mathlib.Core.Option.{none, some}
use lib.ListN.{length, length-append, length-set}
use Rattle.narrowing.specs.Windows.{Win, Side, early, late, Long, moved, closes, slack}
use Rattle.narrowing.specs.Rules.{Family, Lawful}
use Rattle.narrowing.specs.Search.{Search, Searches, Move, move, after}
use Rattle.narrowing.specs.Run.{settled, clash, short, run}
use Rattle.narrowing.specs.Led.{SameLengths}
use Rattle.narrowing.proofs.Moves.{long_after, Whole}
use Rattle.narrowing.proofs.Runs.{never_short}
use Rattle.windows.specs.Sides.{side_is}
use Rattle.places.specs.declared.Place.{Place}
use Rattle.places.specs.Places.{place, first_place, onward_of}
use Rattle.places.proofs.Going.{Going, going_start, going_rest, going_end, going_short, going_closed, going_on}

pub record Under (R : Search) (room : ℕ) (W₀ W : Win) (at : Place) (ms : List Move) (count : ℕ) : Type 0 where
  pub long : Long R.n R.p W
  pub lengths : SameLengths W₀ W
  pub counted : length ms ≡ count
  pub going : Going R room W₀ W at ms

moved_lengths : (W₀ W : Win) (j : ℕ) (s : Side) (b : ℕ) → SameLengths W₀ W → SameLengths W₀ (moved W j s b)
moved_lengths W₀ W j early b h = record { early = length-set W.e j b ∙ h.early; late = h.late }
moved_lengths W₀ W j late b h = record { early = h.early; late = length-set W.l j b ∙ h.late }

module _ (R : Search) (room : ℕ) (W₀ : Win) where
  pub under_start : Long R.n R.p W₀ → Under R room W₀ W₀ first_place [] 0
  under_start L = record { long = L; lengths = record { early = refl; late = refl }; counted = refl; going = going_start R room W₀ L }

  module _ (W : Win) (at : Place) (ms : List Move) (count : ℕ) (S : Under R room W₀ W at ms count) where
    -- no job is left
    pub under_end : R.n ≤ at.job → run R room W₀ ≡ settled W ms
    under_end b = going_end R room W₀ W ms at S.going b

    module _ (b : at.job < R.n) where
      -- the place rests
      pub under_rest : R.best W at.job (side_is at.side) ≡ none → Under R room W₀ W (onward_of at R.n) ms count
      under_rest h = record { long = S.long; lengths = S.lengths; counted = S.counted; going = going_rest R room W₀ W ms at S.going b h }

      module _ (t : ℕ) (h : R.best W at.job (side_is at.side) ≡ some t) where
        -- a move is left, and no room
        pub under_short : room ≤ count → run R room W₀ ≡ short
        under_short r = going_short R room W₀ W ms at S.going t b h (omega (arith, S.counted))

        -- that is never so where the room is more than the slack at first
        pub under_room : (G : Family) → Searches R G → Lawful R.n G → Whole R.n W₀ → slack R.p W₀ R.n < room → count < room
        under_room G f law w d = elim (dec_lt count room) [ yes r ↦ r | no r ↦ absurd (never_short R G f law room W₀ w d (under_short (omega arith))) ]

        abbrev one : Move
        one = move W at.job (side_is at.side) t

        pub under_more : length (ms ++ one ∷ []) ≡ count + 1
        under_more = length-append ms (one ∷ []) ∙ omega (arith, S.counted)

        module _ (r : count < room) (W' : Win) (e : W' ≡ after R W at.job (side_is at.side) t) where
          left : length ms < room
          left = omega (arith, S.counted)

          -- the move closes its window
          pub under_closed : closes R.p W' at.job ≡ true → run R room W₀ ≡ clash at.job (ms ++ one ∷ [])
          under_closed z = going_closed R room W₀ W ms at S.going t b h left (rw e at z)

          -- it does not
          pub under_on : closes R.p W' at.job ≡ false → Under R room W₀ W' (place at.job at.side true) (ms ++ one ∷ []) (count + 1)
          under_on z =
              let q : closes R.p (after R W at.job (side_is at.side) t) at.job ≡ false = rw e at z in
              subst (λ (U : Win). Under R room W₀ U (place at.job at.side true) (ms ++ one ∷ []) (count + 1)) (sym e)
              record {
                long = long_after R.n R.p W at.job (side_is at.side) (R.bound (side_is at.side) t) S.long q;
                lengths = moved_lengths W₀ W at.job (side_is at.side) (R.bound (side_is at.side) t) S.lengths;
                counted = under_more;
                going = going_on R room W₀ W ms at S.going t b h left q;
              }
