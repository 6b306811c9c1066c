-- The answer table by cases: the answer is a refusal's or the run's; and when the run is short of room, and how many records it has.
use Prim.Native.Nat.{ℕ, zero, suc, ◌<◌}
use native.Mathlib.Omega.{arith}
use native.Mathlib.Decide.{dec_le}
use mathlib.Core.Path.{◌≡◌, refl, sym, subst}
use mathlib.Core.List.{[], ◌∷◌}
use mathlib.Core.Logic.{◌⊎◌, inl, inr}
use Rattle.narrowing.specs.Run.{short, move_count}
use Rattle.narrowing.proofs.Room.{short_below, below_short, count_needed}
use Rattle.answers.specs.Said.{Word, said}
use Rattle.promises.specs.Ask.{Ask, Grounds, Admitted, refusal_of}
use Rattle.promises.specs.Table.{After, leaves, ended, ran, tabled, narrowed}
use Rattle.promises.specs.Promise.{needs, Room}
use Rattle.promises.proofs.Calls.{admitted_call, whole}

module _ (A : Ask) where
  -- the answer is a refusal's or the run's
  abbrev pub Case : After → Type 0
  Case a = ((k : ℕ) × (refusal_of A ≡ suc k) × (a ≡ leaves (said Word.refused (suc k ∷ [])) A.win A.log)) ⊎ (Admitted A × (a ≡ ended A (ran A)))

  case_of : (k : ℕ) → refusal_of A ≡ k → Case (tabled A k)
  unfolding tabled
  case_of zero e = inr (admitted_call A e, refl)
  case_of (suc k) e = inl (k, e, refl)

  pub cased : (a : After) → a ≡ narrowed A → Case a
  unfolding narrowed
  cased a h = subst Case (sym h) (case_of (refusal_of A) refl)

  -- ---- facts of the run

  module _ (x : Grounds A) (g : Admitted A) where
    pub short_five : ran A ≡ short → A.room < needs A
    unfolding needs
    short_five e = short_below A.search A.rules x.searches x.lawful A.win (whole A g.0) A.room e

    pub five_short : A.room < needs A → ran A ≡ short
    unfolding needs
    five_short b = below_short A.search A.rules x.searches x.lawful A.win (whole A g.0) A.room b

    pub room_count : Room A → move_count (ran A) ≡ needs A
    unfolding needs
    room_count b = count_needed A.search A.rules x.searches x.lawful A.win (whole A g.0) A.room b.1

    -- not short of room: there was room
    pub ended_room : (ran A ≡ short → ⊥) → Room A
    ended_room f = elim (dec_le (needs A) A.room) [ yes b ↦ (g.1, b) | no b ↦ absurd (f (five_short (omega arith))) ]
