-- Time-tabling is a lawful family; its searches find the greatest crowded time on side 0 and the least on side 1, and, where every window is long enough, a
-- rule wherever one applies.
use Prim.Native.Nat.{ℕ, zero, suc, ◌-◌, ◌≤◌, ◌<◌}
use native.Mathlib.Omega.{arith}
use mathlib.Core.Path.{◌≡◌}
use mathlib.Core.Bool.{true, not}
use mathlib.Core.Option.{Option, none, some}
use lib.Dec.{eqb}
use Rattle.lists.specs.Lists.{◌!◌}
use Rattle.lists.specs.Tests.{both, only}
use Rattle.lists.specs.Extremes.{Greatest, Least}
use Rattle.lists.proofs.Tests.{both_true, true_both, only_le}
use Rattle.lists.proofs.Sums.{total_le}
use Rattle.lists.proofs.Extremes.{greatest_is, least-is}
use Rattle.narrowing.specs.Windows.{Win, Side, early, late, Long, Inside, Tighter}
use Rattle.narrowing.specs.Rules.{Lawful}
use Rattle.narrowing.specs.Search.{Offered, Searches}
use Rattle.timetable.specs.Time.{Jobs, sure, load, Crowded, Applies, bound}
use Rattle.timetable.specs.Search.{crowded, best, search}
use Rattle.timetable.proofs.Facts.{sure_yes, yes_sure, crowded_yes, yes_crowded}

module _ (J : Jobs) (U W : Win) (i : Inside J.n U W) where
  sure_in : (k t : ℕ) → k < J.n → sure J.p W k t ≡ true → sure J.p U k t ≡ true
  sure_in k t h s =
      let q = sure_yes J.p W k t s in
      yes_sure J.p U k t (record { from = omega (arith, i.late k h); to = omega (arith, i.early k h) })

  -- tighter windows have longer sure parts, so more load
  load_in : (j t : ℕ) → load J W j t ≤ load J U j t
  unfolding load
  load_in j t =
      total_le (λ k. only (both (not (eqb k j)) (sure J.p W k t)) (J.r ! k)) (λ k. only (both (not (eqb k j)) (sure J.p U k t)) (J.r ! k)) J.n
      (λ k h.
      only_le (both (not (eqb k j)) (sure J.p W k t)) (both (not (eqb k j)) (sure J.p U k t)) (J.r ! k)
      (λ q. let b = both_true (not (eqb k j)) (sure J.p W k t) q in true_both _ _ b.0 (sure_in k t h b.1)))

  crowded_in : (j t : ℕ) → Crowded J W j t → Crowded J U j t
  crowded_in j t c = record { lasts = c.lasts; takes = c.takes; over = omega (arith, load_in j t) }

  again : (j : ℕ) (s : Side) (b : ℕ) → j < J.n → Applies J W j s b → Tighter U j s b → Applies J U j s b
  again j early (suc t) h a q = record { from = omega arith; to = omega (arith, i.early j h); crowded = crowded_in j t a.crowded }
  again j late t h a q = record { from = omega (arith, i.late j h); to = q; crowded = crowded_in j t a.crowded }
  again j early zero h a q = elim a [ ]

tighter : (J : Jobs) (W : Win) (j : ℕ) (s : Side) (b : ℕ) → Applies J W j s b → Tighter W j s b
tighter J W j early (suc t) a = omega arith
tighter J W j late t a = omega arith
tighter J W j early zero a = elim a [ ]

pub lawful : (J : Jobs) → Lawful J.n (Applies J)
lawful J = record { tighter = λ W j s b h a. tighter J W j s b a; again = λ U W j s b i h a t. (b, again J U W i j s b h a t) }

-- ---- the searches

module _ (J : Jobs) (W : Win) (j : ℕ) where
  -- as the search counts: side 0, the greatest crowded time of p times from e on, or none
  pub greatest_crowded : Greatest (Crowded J W j) (W.e ! j) (J.p ! j) (best J W j early)
  unfolding best
  greatest_crowded = greatest_is (Crowded J W j) (crowded J W j) (λ t h. crowded_yes J W j t h) (λ t h. yes_crowded J W j t h) (W.e ! j) (J.p ! j)

  -- side 1, the least of p times from l - p on, which stops at 0: only where l is p or more are these the times of the rule, and there `Edges best-next,
  -- next-best` say it by the rule itself
  pub least_crowded : Least (Crowded J W j) (W.l ! j - J.p ! j) (J.p ! j) (best J W j late)
  unfolding best
  least_crowded = least-is (Crowded J W j) (crowded J W j) (λ t h. crowded_yes J W j t h) (λ t h. yes_crowded J W j t h) (J.p ! j) (W.l ! j - J.p ! j)

  early_found : (x : Option ℕ) → Greatest (Crowded J W j) (W.e ! j) (J.p ! j) x → Offered (Applies J W j early) (bound early) x
  early_found none d = none_early
    where
      none_early : (b : ℕ) → Applies J W j early b → ⊥
      none_early (suc t) a = d t (record { from = a.from; to = a.to; has = a.crowded })
      none_early zero a = elim a [ ]
  early_found (some t) d = record { from = d.0.from; to = d.0.to; crowded = d.0.has }

  late_found : J.p ! j ≤ W.l ! j → (x : Option ℕ) → Least (Crowded J W j) (W.l ! j - J.p ! j) (J.p ! j) x → Offered (Applies J W j late) (bound late) x
  late_found h none d = λ t a. d t (record { from = omega (arith, a.from); to = omega (arith, a.to); has = a.crowded })
  late_found h (some t) d = record { from = omega (arith, d.0.from); to = omega (arith, d.0.to); crowded = d.0.has }

  pub best-is : (s : Side) → J.p ! j ≤ W.l ! j → Offered (Applies J W j s) (bound s) (best J W j s)
  best-is early h = early_found (best J W j early) greatest_crowded
  best-is late h = late_found h (best J W j late) least_crowded

pub searches : (J : Jobs) → Searches (search J) (Applies J)
unfolding Long
searches J = record { best-is = λ W j s L b. best-is J W j s (omega (arith, L j b)) }
