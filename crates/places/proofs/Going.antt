-- The work under way, for any search: the moves made so far and what the defined work still gives from the place reached are the defined run.
-- Each law is one way that a turn of the loop goes: the place rests, the round is over, a move finds no room, a move closes its window, a move is made.
use Prim.Native.Nat.{ℕ, suc, ◌+◌, ◌-◌, ◌*◌, ◌≤◌, ◌<◌}
use native.Mathlib.Omega.{arith}
use mathlib.Core.Path.{◌≡◌, refl, sym, ap, ap₂, ◌∙◌}
use mathlib.Core.Bool.{Bool, true, false}
use mathlib.Core.List.{List, [], ◌∷◌, ◌++◌}
use mathlib.Core.Option.{none, some}
use lib.ListN.{length, length-append}
use lib.Dec.{ltb}
use borrow.Author.Tests.{ltb-true, ltb-false}
use Rattle.lists.specs.Tests.{only}
use Rattle.narrowing.specs.Windows.{Win, Side, early, late, number, closes, Long}
use Rattle.narrowing.specs.Search.{Search, Move, move, after}
use Rattle.narrowing.specs.Run.{first_move, resume, settled, clash, short, push, ends, work, run}
use Rattle.narrowing.proofs.TooShort.{run_long}
use Rattle.narrowing.proofs.Walk.{made, resume_early, resume_late, resume_end, resume_start, walk_early, walk_late, walk_round, walk_end, walk_move_early, walk_move_late}
use Rattle.narrowing.proofs.Walk.{written, written_push, written_settled, written_clash, written_more}
use Rattle.windows.specs.Sides.{side_is}
use Rattle.windows.specs.declared.Side.{Side as CodeSide}
use Rattle.windows.specs.declared.Side.TheVariants.{Start, End}
use Rattle.places.specs.declared.Place.{Place}
use Rattle.places.specs.Places.{place, pick_place, first_place, onward_of}

-- from the windows W₀, with the room as the quota, the moves ms have led to the windows W and to the place `at`
pub record Going (R : Search) (room : ℕ) (W₀ W : Win) (at : Place) (ms : List Move) : Type 0 where
  pub within : at.job ≤ R.n
  pub quota : length ms ≤ room
  pub same : written ms (work R (room - length ms) W at.job (side_is at.side)) ≡ run R room W₀
  -- a round that has changed nothing so far: what is left of it is all that the whole round has
  pub quiet : at.changed ≡ false → first_move R W R.n 0 ≡ resume R W at.job (side_is at.side)
  -- no job is left only where the round has changed nothing
  pub over : at.job ≡ R.n → (at.changed ≡ false) × (at.side ≡ Start)

module _ (R : Search) (room : ℕ) (W₀ : Win) where
  pub going_start : Long R.n R.p W₀ → Going R room W₀ W₀ first_place []
  unfolding written
  going_start L =
      let z : room - 0 ≡ room = omega arith in
      record {
        within = omega arith;
        quota = omega arith;
        same = rw z (sym (run_long R room W₀ L));
        quiet = λ q. sym (resume_start R room W₀);
        over = λ q. (refl, refl);
      }

  module _ (W : Win) (ms : List Move) where
    -- to another place, with the same windows
    go_on : (at to : Place) → Going R room W₀ W at ms → to.job ≤ R.n
        → work R (room - length ms) W at.job (side_is at.side) ≡ work R (room - length ms) W to.job (side_is to.side)
        → (to.changed ≡ false → first_move R W R.n 0 ≡ resume R W to.job (side_is to.side))
        → (to.job ≡ R.n → (to.changed ≡ false) × (to.side ≡ Start))
        → Going R room W₀ W to ms
    go_on at to G a f g h =
        record {
          within = a;
          quota = G.quota;
          same = ap (written ms) (sym f) ∙ G.same;
          quiet = g;
          over = h;
        }

    late_on : (j i : ℕ) → R.best W j late ≡ none → suc j ≡ i → work R (room - length ms) W j late ≡ work R (room - length ms) W i early
    late_on j i h q = walk_late R (room - length ms) W j h ∙ ap (λ (k : ℕ). work R (room - length ms) W k early) q

    late_quiet : (j i : ℕ) → R.best W j late ≡ none → suc j ≡ i → resume R W j late ≡ resume R W i early
    late_quiet j i h q = resume_late R room W j h ∙ ap (λ (k : ℕ). resume R W k early) q

    module _ (j : ℕ) (changed : Bool) (b : j < R.n) where
      rest_early : Going R room W₀ W (place j Start changed) ms → R.best W j early ≡ none → Going R room W₀ W (place j End changed) ms
      rest_early G h =
          go_on (place j Start changed) (place j End changed) G (omega arith)
          (walk_early R (room - length ms) W j b h)
          (λ q. G.quiet q ∙ resume_early R room W j b h)
          (λ q. absurd (omega arith))

      rest_late : Going R room W₀ W (place j End changed) ms → R.best W j late ≡ none → (t : Bool) → ltb (j + 1) R.n ≡ t → (u : Bool) → changed ≡ u
          → Going R room W₀ W (pick_place t (place (j + 1) Start changed) (pick_place u first_place (place R.n Start false))) ms
      rest_late G h true t u v =
          go_on (place j End changed) (place (j + 1) Start changed) G (omega arith) (late_on j (j + 1) h (omega arith))
          (λ q. G.quiet q ∙ late_quiet j (j + 1) h (omega arith))
          (λ q. absurd (omega (arith, ltb-true)))
      rest_late G h false t true v =
          go_on (place j End changed) first_place G (omega arith)
          (late_on j R.n h (omega (arith, ltb-false)) ∙ walk_round R (room - length ms) W)
          (λ q. sym (resume_start R room W))
          (λ q. (refl, refl))
      rest_late G h false t false v =
          go_on (place j End changed) (place R.n Start false) G (omega arith) (late_on j R.n h (omega (arith, ltb-false)))
          (λ q. G.quiet v ∙ late_quiet j R.n h (omega (arith, ltb-false)))
          (λ q. (refl, refl))

      rest_at : (side : CodeSide) → Going R room W₀ W (place j side changed) ms → R.best W j (side_is side) ≡ none
          → Going R room W₀ W (onward_of (place j side changed) R.n) ms
      rest_at Start G h = rest_early G h
      rest_at End G h = rest_late G h (ltb (j + 1) R.n) refl changed refl

    module _ (at : Place) (G : Going R room W₀ W at ms) where
      -- the place rests
      pub going_rest : at.job < R.n → R.best W at.job (side_is at.side) ≡ none → Going R room W₀ W (onward_of at R.n) ms
      going_rest b h = rest_at at.job at.changed b at.side G h

      -- no job is left
      pub going_end : R.n ≤ at.job → run R room W₀ ≡ settled W ms
      going_end b =
          let q : at.job ≡ R.n = omega (arith, G.within) in
          let d = G.over q in
          let k = G.quiet d.0 ∙ ap₂ (λ (i : ℕ) (s : CodeSide). resume R W i (side_is s)) q d.1 ∙ resume_end R room W in
          sym G.same
          ∙ ap (written ms) (ap₂ (λ (i : ℕ) (s : CodeSide). work R (room - length ms) W i (side_is s)) q d.1 ∙ walk_end R (room - length ms) W k)
          ∙ written_settled ms W

      module _ (t : ℕ) (b : at.job < R.n) (h : R.best W at.job (side_is at.side) ≡ some t) where
        abbrev one : Move
        one = move W at.job (side_is at.side) t

        abbrev then : Win
        then = after R W at.job (side_is at.side) t

        move_at : (m j : ℕ) (side : Side) → j < R.n → R.best W j side ≡ some t → work R m W j side ≡ made R m W j side t
        move_at m j early a g = walk_move_early R m W j t a g
        move_at m j late a g = walk_move_late R m W j t g

        -- a move is left, and no room
        pub going_short : room ≤ length ms → run R room W₀ ≡ short
        unfolding made
        going_short r =
            let z : room - length ms ≡ 0 = omega arith in
            sym G.same
            ∙ ap (written ms)
            (move_at (room - length ms) at.job (side_is at.side) b h ∙ ap (λ (m : ℕ). made R m W at.job (side_is at.side) t) z)
            ∙ written_more ms

        -- what the work comes to, by the test on the moved windows
        move_made : length ms < room → (c : Bool) → closes R.p then at.job ≡ c
            → run R room W₀ ≡ written ms (ends c (clash at.job (one ∷ [])) (push one (work R (room - suc (length ms)) then at.job (side_is at.side))))
        unfolding made
        move_made r c e =
            let z : room - length ms ≡ suc (room - suc (length ms)) = omega arith in
            sym G.same
            ∙ ap (written ms)
            (move_at (room - length ms) at.job (side_is at.side) b h ∙ ap (λ (m : ℕ). made R m W at.job (side_is at.side) t) z ∙ rw e)

        -- the move closes its window
        pub going_closed : length ms < room → closes R.p then at.job ≡ true → run R room W₀ ≡ clash at.job (ms ++ one ∷ [])
        going_closed r e = move_made r true e ∙ written_clash ms at.job one

        more : length (ms ++ one ∷ []) ≡ suc (length ms)
        more = length-append ms (one ∷ []) ∙ omega arith

        -- it does not
        pub going_on : length ms < room → closes R.p then at.job ≡ false → Going R room W₀ then (place at.job at.side true) (ms ++ one ∷ [])
        going_on r e =
            record {
              within = G.within;
              quota = omega (arith, more);
              same = rw more (sym (move_made r false e ∙ written_push ms one _));
              quiet = λ q. absurd (let z : ◌≡◌ {A = ℕ} 0 1 = cc in omega arith);
              over = λ q. absurd (omega arith);
            }

-- ---- the measure: the room left, whether another round is to follow, what is left of this one

unfoldable pub weight : ℕ → Place → ℕ → ℕ
weight n at left = left * (4 * n + 4) + only at.changed (2 * n + 2) + (2 * (n - at.job) + (1 - number (side_is at.side)))

pub weight_move : (n : ℕ) (at : Place) (room count : ℕ) → count < room → weight n (place at.job at.side true) (room - (count + 1)) < weight n at (room - count)
unfolding weight
weight_move n at room count h =
    let z : room - count ≡ suc (room - (count + 1)) = omega arith in
    rw z (omega arith)

weight_late : (n j left : ℕ) (changed : Bool) → j < n → (t : Bool) → ltb (j + 1) n ≡ t
    → weight n (pick_place t (place (j + 1) Start changed) (pick_place changed first_place (place n Start false))) left < weight n (place j End changed) left
unfolding weight
weight_late n j left changed b true e = omega (arith, ltb-true)
weight_late n j left true b false e = omega (arith, ltb-false)
weight_late n j left false b false e = omega (arith, ltb-false)

weight_at : (n j left : ℕ) (side : CodeSide) (changed : Bool) → j < n → weight n (onward_of (place j side changed) n) left < weight n (place j side changed) left
unfolding weight
weight_at n j left Start changed b = omega arith
weight_at n j left End changed b = weight_late n j left changed b (ltb (j + 1) n) refl

pub weight_rest : (n : ℕ) (at : Place) (left : ℕ) → at.job < n → weight n (onward_of at n) left < weight n at left
weight_rest n at left b = weight_at n at.job left at.side at.changed b
