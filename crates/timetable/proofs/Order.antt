-- Time-tabling does not look at the jobs' numbers: renumbered, the same rules apply.
use Prim.Native.Nat.{ℕ, zero, suc, ◌<◌}
use native.Mathlib.Omega.{arith}
use mathlib.Core.Path.{◌≡◌, sym, ap, subst, ◌∙◌}
use mathlib.Core.Bool.{not}
use lib.Dec.{eqb}
use Rattle.lists.specs.Lists.{◌!◌}
use Rattle.lists.specs.Tests.{both, only}
use Rattle.lists.specs.Sums.{total}
use Rattle.lists.specs.Permutations.{Permutes, SameList}
use Rattle.lists.proofs.Sums.{total_cong}
use Rattle.lists.proofs.Permutations.{turned, total_turn, eqb_turn, list_back}
use Rattle.narrowing.specs.Windows.{Win, early, late}
use Rattle.narrowing.specs.Renumbered.{SameWin, Alike}
use Rattle.timetable.specs.Time.{Jobs, sure, load, Crowded, Applies}

-- the same jobs, numbered anew
pub record SameJobs (π : ℕ → ℕ) (J I : Jobs) : Type 0 where
  pub count : I.n ≡ J.n
  pub supply : I.cap ≡ J.cap
  pub lasts : SameList J.n π J.p I.p
  pub takes : SameList J.n π J.r I.r

summand : Jobs → Win → ℕ → ℕ → ℕ → ℕ
summand J W j t k = only (both (not (eqb k j)) (sure J.p W k t)) (J.r ! k)

module _ (π σ : ℕ → ℕ) (J I : Jobs) (h : Permutes J.n π σ) (s : SameJobs π J I) where
  module _ (W U : Win) (v : SameWin J.n π W U) where
    summand_same : (j t k : ℕ) → j < J.n → k < J.n → summand I U j t k ≡ summand J W (π j) t (π k)
    unfolding summand sure
    summand_same j t k b c = rw (eqb_turn J.n π σ h k j c b, s.takes k c, s.lasts k c, v.early k c, v.late k c)

    load_same : (j t : ℕ) → j < J.n → load I U j t ≡ load J W (π j) t
    unfolding load summand
    load_same j t b =
        ap (total (summand I U j t)) s.count
        ∙ total_cong (summand I U j t) (λ k. summand J W (π j) t (π k)) J.n (λ k c. summand_same j t k b c)
        ∙ total_turn J.n π σ h (summand J W (π j) t)

    crowded_same : (j t : ℕ) → j < J.n → Crowded I U j t → Crowded J W (π j) t
    crowded_same j t b c = omega (arith, load_same j t b, s.supply, s.lasts j b, s.takes j b)

  pub alike : Alike J.n π (Applies J) (Applies I)
  unfolding Alike
  alike W U v j early (suc t) c a =
      record { from = omega (arith, v.early j c); to = omega (arith, v.early j c, s.lasts j c); crowded = crowded_same W U v j t c a.crowded }
  alike W U v j late t c a =
      record { from = omega (arith, v.late j c, s.lasts j c); to = omega (arith, v.late j c); crowded = crowded_same W U v j t c a.crowded }
  alike W U v j early zero c a = elim a [ ]

  jobs_back : SameJobs σ I J
  jobs_back =
      record {
        count = sym s.count;
        supply = sym s.supply;
        lasts = rw s.count (list_back J.n π σ h J.p I.p s.lasts);
        takes = rw s.count (list_back J.n π σ h J.r I.r s.takes);
      }

turn_count : (n m : ℕ) (π σ : ℕ → ℕ) → m ≡ n → Permutes n π σ → Permutes m π σ
turn_count n m π σ e h = rw e h

-- and back
pub alike_back : (π σ : ℕ → ℕ) (J I : Jobs) (h : Permutes J.n π σ) (s : SameJobs π J I) → Alike J.n σ (Applies I) (Applies J)
alike_back π σ J I h s =
    subst (λ (m : ℕ). Alike m σ (Applies I) (Applies J)) s.count
    (alike σ π I J (turn_count J.n I.n σ π s.count (turned J.n π σ h)) (jobs_back π σ J I h s))
