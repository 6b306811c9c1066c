-- The kept load from turn to turn: after a move the windows before it are those with the bound put back, and no bound has been loosened.
use Prim.Native.Nat.{ℕ, suc, ◌≤◌, ◌<◌}
use native.Mathlib.Omega.{arith}
use mathlib.Core.Path.{◌≡◌, sym, ap, subst, ◌∙◌}
use mathlib.Core.List.{List}
use lib.ListN.{length}
use lib.Seq.{set-set, set-get_or, get_or-set_same}
use Rattle.lists.specs.Lists.{◌!◌}
use Rattle.narrowing.specs.Windows.{Win, win, Side, early, late, moved, Respects}
use Rattle.joblist.specs.Limits.{jobs, most_time}
use Rattle.timetable.specs.Time.{Applies, bound}
use Rattle.timetable.specs.Table.{Call, call, jobs_of, Workable}
use Rattle.windows.specs.Bounds.{bound_at}
use Rattle.crowding.specs.Asked.{asked}
use Rattle.timetable.proofs.Good.{durations_sized, ends_sized, start_most, end_most}
use Rattle.timetable.proofs.Moves.{best_applies}
use Rattle.crowding.proofs.Steps.{good_cap}
use Rattle.profile.specs.declared.kept.Outline.{Outline}
use Rattle.loads.specs.Loads.{Loaded}
use Rattle.windows.specs.Sides.{side_is}
use Rattle.places.specs.declared.Place.{Place}
use Rattle.turns.specs.declared.Turn.{Turn}
use Rattle.turns.specs.Moves.{Moves, TurnSays}

put_back : (W : Win) (j : ℕ) (s : Side) (b : ℕ) → moved (moved W j s b) j s (bound_at W j s) ≡ W
put_back W j early b = ap (λ (e : List ℕ). win e W.l) (set-set W.e j b (W.e ! j) ∙ set-get_or W.e j 0)
put_back W j late b = ap (λ (l : List ℕ). win W.e l) (set-set W.l j b (W.l ! j) ∙ set-get_or W.l j 0)

-- a call's list is workable whatever its capacity and its log
pub workable_free : {W : Win} {p r : List ℕ} {cap : ℕ} {log : List ℕ} → Workable (call W p r cap log) → Workable (asked W.e W.l p r 0)
workable_free {W} {p} {r} {cap} w = record { good = good_cap W.e W.l p r cap w.good; long = w.long }

tightens : (W : Win) (p r : List ℕ) (cap : ℕ) (log : List ℕ) → Workable (call W p r cap log) → (j : ℕ) (s : Side) (t : ℕ) → j < jobs W
    → Applies (jobs_of (call W p r cap log)) W j s (bound s t) → Respects (moved W j s (bound s t)) j s (bound_at W j s)
tightens W p r cap log w j early t b a = omega (arith, get_or-set_same W.e j (suc t) 0 b, a.from)
tightens W p r cap log w j late t b a = omega (arith, get_or-set_same W.l j t 0 (omega (arith, ends_sized w.good)), a.to)

bound_most : (W : Win) (p r : List ℕ) (cap : ℕ) (log : List ℕ) → Workable (call W p r cap log) → (j : ℕ) (s : Side) → bound_at W j s ≤ most_time
bound_most W p r cap log w j early = start_most w.good j
bound_most W p r cap log w j late = end_most w.good j

-- ---- after a move from the bound that was there

module _ (c : Call) (at : Place) (count t : ℕ) (W' : Win) (log' : List ℕ) (m : Moves c at count t W' log') (w : Workable c) (b : at.job < jobs c.win) where
  abbrev was : ℕ
  was = bound_at c.win at.job (side_is at.side)

  kept_tight : Respects W' at.job (side_is at.side) was
  kept_tight =
      subst (λ (U : Win). Respects U at.job (side_is at.side) was) (sym m.windows)
      (tightens c.win c.p c.r c.cap c.log w at.job (side_is at.side) t b (best_applies c w at.job (side_is at.side) b t m.found))

  kept_small : was ≤ most_time
  kept_small = bound_most c.win c.p c.r c.cap c.log w at.job (side_is at.side)

  kept_before : {ts ld : List ℕ} {k : Outline} → Loaded c.win c.p c.r ts ld k
      → Loaded (moved W' at.job (side_is at.side) was) c.p c.r ts ld k
  kept_before {ts} {ld} {k} L =
      subst (λ (U : Win). Loaded U c.p c.r ts ld k)
      (sym (ap (λ (U : Win). moved U at.job (side_is at.side) was) m.windows ∙ put_back c.win at.job (side_is at.side) (bound (side_is at.side) t))) L

-- what following it asks
pub follow_ready : (c : Call) (at : Place) (count old : ℕ) (W' : Win) (log' : List ℕ) → TurnSays c at count W' log' (Turn.Moved old) → Workable c
    → at.job < jobs c.win → Workable (call W' c.p c.r c.cap log')
    → {ts ld : List ℕ} {k : Outline} → Loaded c.win c.p c.r ts ld k
    → Workable (asked W'.e W'.l c.p c.r 0) × (at.job < length c.p) × Respects W' at.job (side_is at.side) old × (old ≤ most_time)
    × Loaded (moved W' at.job (side_is at.side) old) c.p c.r ts ld k
follow_ready c at count old W' log' h w b v L = (
  workable_free v,
  omega (arith, durations_sized w.good),
  rw h.3 (kept_tight c at count h.0 W' log' h.1 w b),
  rw h.3 (kept_small c at count h.0 W' log' h.1 w b),
  rw h.3 (kept_before c at count h.0 W' log' h.1 w b L),
)
