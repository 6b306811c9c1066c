-- Windows that are too short: the lowest such job is found exactly where there is one, and the run then clashes without a move. Where every window is
-- long enough the run is the work.
use Prim.Native.Nat.{ℕ, suc, ◌+◌, ◌<◌}
use native.Mathlib.Omega.{arith}
use native.Mathlib.Decide.{dec_le}
use mathlib.Core.Path.{◌≡◌, refl, sym, ap, subst}
use mathlib.Core.List.{List, []}
use mathlib.Core.Option.{Option, none, some}
use borrow.Author.Tests.{ltb-true, lt-ltb}
use Rattle.lists.specs.Lists.{◌!◌}
use Rattle.lists.specs.Extremes.{Least, least}
use Rattle.lists.proofs.Extremes.{least-is}
use Rattle.narrowing.specs.Windows.{Win, early, Long, LowestTooShort, lowest_too_short, closes, slack}
use Rattle.narrowing.specs.Search.{Search}
use Rattle.narrowing.specs.Run.{Out, clash, work, run, needed}

module _ (n : ℕ) (p : List ℕ) (W : Win) where
  -- what the search for such a job says
  abbrev pub TooShortSays : Option ℕ → Type 0
  TooShortSays none = Long n p W
  TooShortSays (some j) = LowestTooShort n p W j

  says_too_short : (x : Option ℕ) → Least (λ k. W.l ! k < W.e ! k + p ! k) 0 n x → TooShortSays x
  unfolding Long
  says_too_short none f =
      λ k b. elim (dec_le (W.e ! k + p ! k) (W.l ! k)) [ yes h ↦ h | no h ↦ absurd (f k (record { from = omega arith; to = omega arith; has = omega arith })) ]
  says_too_short (some j) f =
      record {
        listed = omega (arith, f.0.to);
        shorter = f.0.has;
        before = λ k b.
            elim (dec_le (W.e ! k + p ! k) (W.l ! k)) [
              | yes h ↦ h
              | no h ↦ absurd (omega (arith, f.0.to, f.1 k (record { from = omega arith; to = omega (arith, f.0.to); has = omega arith })))
            ];
      }

  pub too_short_is : TooShortSays (lowest_too_short n p W)
  unfolding lowest_too_short
  too_short_is =
      says_too_short (least (closes p W) 0 n)
      (least-is (λ k. W.l ! k < W.e ! k + p ! k) (closes p W) (λ k h. ltb-true _ _ h) (λ k h. lt-ltb _ _ h) n 0)

  says_one : (x y : Option ℕ) → TooShortSays x → TooShortSays y → x ≡ y
  unfolding Long
  says_one none none f g = refl
  says_one none (some j) f g = absurd (omega (arith, f j g.listed, g.shorter))
  says_one (some j) none f g = absurd (omega (arith, g j f.listed, f.shorter))
  says_one (some j) (some k) f g =
      elim (dec_le j k) [
        | yes h ↦ elim (dec_le k j) [ yes q ↦ ap some (omega arith) | no q ↦ absurd (omega (arith, g.before j (omega arith), f.shorter)) ]
        | no h ↦ absurd (omega (arith, f.before k (omega arith), g.shorter))
      ]

  -- it finds none exactly where every window is long enough, and job j exactly where j is the lowest whose window is too short
  pub finds_too_short : (x : Option ℕ) → TooShortSays x → lowest_too_short n p W ≡ x
  finds_too_short x f = says_one (lowest_too_short n p W) x too_short_is f

module _ (R : Search) (room : ℕ) (W : Win) where
  pub run_long : Long R.n R.p W → run R room W ≡ work R room W 0 early
  unfolding run
  run_long L = rw (finds_too_short R.n R.p W none L)

  pub run_too_short : (j : ℕ) → LowestTooShort R.n R.p W j → run R room W ≡ clash j []
  unfolding run
  run_too_short j s = rw (finds_too_short R.n R.p W (some j) s)

  -- what holds of the work where every window is long enough, and of a clash without a move where one is too short, holds of the run
  pub run_by : (P : Out → Type 0) → (Long R.n R.p W → P (work R room W 0 early))
      → ((j : ℕ) → LowestTooShort R.n R.p W j → P (clash j [])) → P (run R room W)
  run_by P f g = go (lowest_too_short R.n R.p W) (too_short_is R.n R.p W)
    where
      go : (x : Option ℕ) → TooShortSays R.n R.p W x → P (run R room W)
      go none L = subst P (sym (run_long L)) (f L)
      go (some j) s = subst P (sym (run_too_short j s)) (g j s)

-- where one is too short no move is needed
pub needed_none : (R : Search) (W : Win) (j : ℕ) → LowestTooShort R.n R.p W j → needed R W ≡ 0
unfolding needed
needed_none R W j s = rw (run_too_short R (suc (slack R.p W R.n)) W j s)
