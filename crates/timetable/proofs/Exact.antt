-- Schedules and the rules: no rule applies to windows fixed by a schedule; and where every job is fixed, a rule applies exactly if the demands of
-- the running jobs exceed the capacity at some time.
use Prim.Native.Nat.{ℕ, zero, suc, ◌+◌, ◌<◌}
use native.Mathlib.Omega.{arith}
use mathlib.Core.Path.{◌≡◌, refl, ap}
use mathlib.Core.Bool.{Bool, true, false}
use mathlib.Core.List.{List}
use mathlib.Core.Logic.{◌↔◌}
use Rattle.lists.specs.Lists.{◌!◌}
use Rattle.lists.specs.Tests.{only}
use Rattle.lists.proofs.Tests.{by_contra}
use Rattle.lists.proofs.Sums.{total_cong, total_others, total_some_term}
use Rattle.narrowing.specs.Windows.{Win, Side, early, late}
use Rattle.narrowing.specs.Rules.{Stable}
use Rattle.narrowing.specs.Schedules.{Fixed, Exact}
use Rattle.timetable.specs.Time.{Jobs, Runs, runs_at, drawn, Fits, Overdrawn, sure, load, Crowded, Applies}
use Rattle.timetable.proofs.Facts.{sure_yes, yes_sure, runs_yes, yes_runs}

module _ (J : Jobs) (s : List ℕ) (W : Win) (f : Fixed J.n J.p s W) where
  -- the sure part of a fixed job is when it runs
  sure_runs : (k t : ℕ) → k < J.n → sure J.p W k t ≡ runs_at J.p s k t
  sure_runs k t b = go (sure J.p W k t) (runs_at J.p s k t) refl refl
    where
      go : (x y : Bool) → sure J.p W k t ≡ x → runs_at J.p s k t ≡ y → x ≡ y
      go true true a c = refl
      go false false a c = refl
      go true false a c = let q = sure_yes J.p W k t a in let z = yes_runs J.p s k t (omega (arith, f.early k b, f.late k b)) in cc
      go false true a c = let q = runs_yes J.p s k t c in let z = yes_sure J.p W k t (omega (arith, f.early k b, f.late k b)) in cc

  -- the others' load and the demand of a job that runs are what is drawn
  load_drawn : (j t : ℕ) → j < J.n → runs_at J.p s j t ≡ true → load J W j t + J.r ! j ≡ drawn J s t
  unfolding load drawn
  load_drawn j t b h =
      let a = total_others (λ k. sure J.p W k t) (λ k. J.r ! k) j J.n b in
      let c = total_cong (λ k. only (sure J.p W k t) (J.r ! k)) (λ k. only (runs_at J.p s k t) (J.r ! k)) J.n (λ k d. ap (λ (x : Bool). only x (J.r ! k)) (sure_runs k t d)) in
      let e : only (sure J.p W j t) (J.r ! j) ≡ J.r ! j = rw (sure_runs j t b, h) in
      omega (arith, a, c, e)

  crowded_over : (j t : ℕ) → j < J.n → Runs J.p s j t → Crowded J W j t → J.cap < drawn J s t
  crowded_over j t b q c = omega (arith, load_drawn j t b (yes_runs J.p s j t q))

  -- a rule that applies shows a time at which the supply is overdrawn
  applies_over : (j : ℕ) (v : Side) (b : ℕ) → j < J.n → Applies J W j v b → Overdrawn J s
  applies_over j early (suc t) h a = (t, crowded_over j t h (omega (arith, f.early j h)) a.crowded)
  applies_over j late t h a = (t, crowded_over j t h (omega (arith, f.late j h)) a.crowded)
  applies_over j early zero h a = elim a [ ]

  -- and such a time gives a rule that applies
  over_applies : Overdrawn J s → (j : ℕ) × (b : ℕ) × (j < J.n) × Applies J W j early b
  unfolding drawn
  over_applies o =
      let t = o.0 in
      let x = total_some_term (λ k. runs_at J.p s k t) (λ k. J.r ! k) J.n (omega (arith, o.1)) in
      let j = x.0 in
      let q = runs_yes J.p s j t x.3 in
      let d = load_drawn j t x.1 x.3 in (
        j,
        suc t,
        x.1,
        record {
          from = omega (arith, f.early j x.1, q.from);
          to = omega (arith, f.early j x.1, q.to);
          crowded = record { lasts = omega (arith, q.from, q.to); takes = x.2; over = omega (arith, o.1, d) };
        },
      )

  sound : Fits J s → Stable J.n (Applies J) W
  unfolding Stable Fits
  sound S j v b h a = let o = applies_over j v b h a in omega (arith, S o.0, o.1)

  full : Stable J.n (Applies J) W → Fits J s
  unfolding Stable Fits
  full S t = by_contra (drawn J s t) J.cap (λ q. let x = over_applies (t, q) in S x.0 early x.1 x.2 x.3)

pub exact : (J : Jobs) → Exact J.n J.p (Applies J) (Fits J)
exact J = record { sound = sound J; full = full J }

-- what a fixed list's rules say, in facts: the two sums are the same
pub fixed_applies : (J : Jobs) (s : List ℕ) (W : Win) → Fixed J.n J.p s W
    → ((j : ℕ) × (v : Side) × (b : ℕ) × (j < J.n) × Applies J W j v b) ↔ Overdrawn J s
fixed_applies J s W f = (
  λ x. applies_over J s W f x.0 x.1 x.2 x.3 x.4,
  λ o. let x = over_applies J s W f o in (x.0, early, x.1, x.2, x.3),
)
