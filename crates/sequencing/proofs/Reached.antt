-- The state of the work: what the lists, the place and the count reached have to do with the windows at first. Each law is one answer of a turn.
use Prim.Native.Nat.{ℕ, zero, suc, ◌+◌, ◌*◌, ◌≤◌, ◌<◌}
use native.Mathlib.Omega.{arith}
use native.Mathlib.Nat.{suc-mul}
use mathlib.Core.Path.{◌≡◌, refl, sym, ap, subst}
use mathlib.Core.Bool.{true}
use mathlib.Core.List.{List, [], ◌∷◌, ◌++◌}
use mathlib.Core.Option.{some}
use Rattle.lists.specs.Lists.{◌!◌}
use Rattle.narrowing.specs.Windows.{Win, Long, slack}
use Rattle.narrowing.specs.Search.{Search, Move, move}
use Rattle.narrowing.specs.Run.{Out, settled, clash}
use Rattle.narrowing.proofs.Moves.{Whole}
use Rattle.answers.specs.declared.Answer.{Answer}
use Rattle.joblist.specs.Limits.{jobs, most_jobs, most_time}
use Rattle.promises.specs.Table.{ran}
use Rattle.heads.specs.Precedences.{Detects}
use Rattle.heads.specs.Search.{detect, search}
use Rattle.heads.specs.Promise.{head_ask}
use Rattle.heads.proofs.Law.{detect_lawful}
use Rattle.heads.proofs.Search.{detect_searches}
use Rattle.windows.specs.Sides.{side_is}
use Rattle.places.specs.declared.Place.{Place}
use Rattle.places.specs.Places.{place, first_place, onward_of}
use Rattle.places.proofs.Under.{Under, under_start, under_end, under_rest, under_room, under_more, under_closed, under_on}
use Rattle.headturns.specs.declared.Turn.{Turn}
use Rattle.headturns.specs.Turns.{HeadLists, windows, Both, then, TurnSays}
use Rattle.sequencing.specs.Work.{EndsIn, Works}

-- one more move than the sum of l - e - p: as many as the work can need
abbrev pub quota : Win → List ℕ → ℕ
quota W p = (head_ask W p).room

pub record Reached (W₀ : Win) (p : List ℕ) (A : HeadLists) (at : Place) (count : ℕ) : Type 0 where
  pub whole : Whole (jobs W₀) W₀
  pub both : Both (jobs W₀) p A
  pub ms : List Move
  pub under : Under (search (jobs W₀) p) (quota W₀ p) W₀ (windows A) at ms count

pub reached_start : (n : ℕ) (p : List ℕ) (A : HeadLists) → n ≡ jobs (windows A) → Whole n (windows A) → Both n p A → Long n p (windows A)
    → Reached (windows A) p A first_place 0
reached_start n p A e w b L =
    record {
      whole = rw e at w;
      both = rw e at b;
      ms = [];
      under = under_start (search (jobs (windows A)) p) (quota (windows A) p) (windows A) (rw e at L);
    }

ends_so : (W : Win) (p : List ℕ) (o : Out) (a : Answer) (X : Win) → ran (head_ask W p) ≡ o → EndsIn o a X → Works W p a X
ends_so W p o a X e h = subst (λ (x : Out). EndsIn x a X) (sym e) h

-- windows that end by a time t have at most so much slack
slack_most : (p : List ℕ) (W : Win) (t : ℕ) → ((k : ℕ) → W.l ! k ≤ t) → (m : ℕ) → slack p W m ≤ m * t
unfolding slack
slack_most p W t h zero = omega arith
slack_most p W t h (suc m) = omega (arith, slack_most p W t h m, h m, suc-mul m t)

-- so no count is too large for a word
pub quota_small : (W : Win) (p : List ℕ) → jobs W ≤ most_jobs → ((k : ℕ) → W.l ! k ≤ most_time) → quota W p ≤ suc (most_jobs * most_time)
quota_small W p few h = omega (arith, slack_most p W most_time h (jobs W))

module _ (W₀ : Win) (p : List ℕ) (A : HeadLists) (at : Place) (count : ℕ) (S : Reached W₀ p A at count) where
  abbrev R : Search
  R = search (jobs W₀) p

  -- no job is left
  pub reached_end : jobs W₀ ≤ at.job → Works W₀ p (Answer.Settled count) (windows A)
  reached_end b =
      ends_so W₀ p (settled (windows A) S.ms) (Answer.Settled count) (windows A) (under_end R (quota W₀ p) W₀ (windows A) at S.ms count S.under b)
      (ap Answer.Settled (sym S.under.counted), refl)

  module _ (b : at.job < jobs W₀) (B : HeadLists) where
    -- the place rests
    pub reached_rest : TurnSays (jobs W₀) p A at.job (side_is at.side) B Turn.Rests → Reached W₀ p B (onward_of at (jobs W₀)) count
    reached_rest h =
        rw h.1
        record { whole = S.whole; both = S.both; ms = S.ms; under = under_rest R (quota W₀ p) W₀ (windows A) at S.ms count S.under b h.0 }

    module _ (c : ℕ) (d : detect (jobs W₀) p (windows A) at.job (side_is at.side) ≡ some c) where
      -- a move may still come
      pub move_left : count < quota W₀ p
      move_left =
          under_room R (quota W₀ p) W₀ (windows A) at S.ms count S.under b c d (Detects (jobs W₀) p) (detect_searches (jobs W₀) p) (detect_lawful (jobs W₀) p)
          S.whole (omega arith)

    -- the move closes the window
    pub reached_closed : (X : Win) → TurnSays (jobs W₀) p A at.job (side_is at.side) B Turn.Closed → Works W₀ p (Answer.Clash (count + 1) at.job) X
    reached_closed X (c, d, z, e) =
        ends_so W₀ p (clash at.job (S.ms ++ move (windows A) at.job (side_is at.side) c ∷ [])) (Answer.Clash (count + 1) at.job) X
        (under_closed R (quota W₀ p) W₀ (windows A) at S.ms count S.under b c d (move_left c d) (then (jobs W₀) p A at.job (side_is at.side) c) refl z)
        (ap (λ (k : ℕ). Answer.Clash k at.job) (sym (under_more R (quota W₀ p) W₀ (windows A) at S.ms count S.under b c d)))

    -- it does not
    pub reached_moved : TurnSays (jobs W₀) p A at.job (side_is at.side) B Turn.Moved → Reached W₀ p B (place at.job at.side true) (count + 1)
    reached_moved (c, d, w, z, x) =
        record {
          whole = S.whole;
          both = x;
          ms = S.ms ++ move (windows A) at.job (side_is at.side) c ∷ [];
          under = under_on R (quota W₀ p) W₀ (windows A) at S.ms count S.under b c d (move_left c d) (windows B) w z;
        }
