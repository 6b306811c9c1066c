-- The searches of a job's stretch, in its own sure part and beside it, put together.
use Prim.Native.Nat.{ℕ, ◌+◌, ◌-◌, ◌≤◌, ◌<◌}
use native.Mathlib.Omega.{arith}
use native.Mathlib.Decide.{dec_lt}
use mathlib.Core.Path.{◌≡◌}
use mathlib.Core.Bool.{true, false}
use Rattle.lists.specs.Tests.{between}
use Rattle.lists.proofs.Tests.{between_yes, between_before, between_behind}
use Rattle.std.specs.Prelude.{min, max}
use Rattle.peaks.specs.Peaks.{LastOver, FirstOver}
use Rattle.searches.specs.declared.load.Load.{Load}
use Rattle.searches.specs.Busy.{Busy, DemandIn, LastBusy, FirstBusy}

module _ (g : ℕ → ℕ) (cap r s f : ℕ) where
  -- in the own part, and beside it
  busy_in : (t : ℕ) → between s f t ≡ true → cap < g t → Busy g cap r s f t
  busy_in t o h = rw o (omega arith)

  in_busy : (t : ℕ) → between s f t ≡ true → Busy g cap r s f t → cap < g t
  in_busy t o h = let z = rw o at h in omega arith

  busy_beside : (t : ℕ) → between s f t ≡ false → cap < g t + r → Busy g cap r s f t
  busy_beside t o h = rw o h

  beside_busy : (t : ℕ) → between s f t ≡ false → Busy g cap r s f t → cap < g t + r
  beside_busy t o h = rw o at h

  -- a demand above the capacity is too much at every time
  busy_always : DemandIn g r s f → cap < r → (t : ℕ) → Busy g cap r s f t
  busy_always C h t =
      elim (dec_lt t s) [
        | yes a ↦ busy_beside t (between_before s f t a) (omega arith)
        | no a ↦
            elim (dec_lt t f) [
              | yes b ↦ busy_in t (between_yes s f t (omega arith) b) (omega (arith, C t (omega arith) b))
              | no b ↦ busy_beside t (between_behind s f t (omega arith)) (omega arith)
            ]
      ]

module _ (load : Load) (cap r s f : ℕ) where
  -- ---- side 0: beside up to mid, in from there up to f

  pub last_all : (e : ℕ) → cap < r → e ≤ f → LastBusy load cap r s f e f f
  last_all e h i g K C =
      record { from = i; to = omega arith; has = λ t q a. busy_always g cap r s f C h t; none_behind = λ t a b. absurd (omega arith) }

  module _ (e mid : ℕ) (es : e ≤ s) (ef : e ≤ f) (m : mid ≡ min s f) where
    in_from : (t : ℕ) → mid ≤ t → t < f → between s f t ≡ true
    in_from t a b = between_yes s f t (omega arith) b

    pub last_own : (x : ℕ) → LastOver load.ts.now load.ld.now load.kept cap mid f x → mid < x → LastBusy load cap r s f e f x
    last_own x L h g K C =
        let S = L g K in
        record {
          from = omega arith;
          to = S.to;
          has = λ t q a. busy_in g cap r s f t (in_from t (omega arith) (omega (arith, S.to))) (S.has t q (omega arith));
          none_behind = λ t a b o. S.none_behind t a b (in_busy g cap r s f t (in_from t (omega arith) b) o);
        }

    pub last_beside : (x y : ℕ) → r ≤ cap → LastOver load.ts.now load.ld.now load.kept cap mid f x → x ≤ mid → LastOver load.ts.now load.ld.now load.kept (cap - r) e mid y → LastBusy load cap r s f e f y
    last_beside x y w L h M g K C =
        let S = L g K in
        let T = M g K in
        record {
          from = T.from;
          to = omega (arith, T.to);
          has = λ t q a. busy_beside g cap r s f t (between_before s f t (omega (arith, T.to))) (omega (arith, T.has t q a));
          none_behind = λ t a b o.
              elim (dec_lt t mid) [
                | yes d ↦ T.none_behind t a d (omega (arith, beside_busy g cap r s f t (between_before s f t (omega arith)) o))
                | no d ↦ S.none_behind t (omega arith) b (in_busy g cap r s f t (in_from t (omega arith) b) o)
              ];
        }

  -- ---- side 1: in from s up to mid, beside from there up to l

  pub first_all : (l : ℕ) → cap < r → s ≤ l → FirstBusy load cap r s f s l s
  first_all l h i g K C =
      record { from = omega arith; to = i; has = λ d. busy_always g cap r s f C h s; none_before = λ t a b. absurd (omega arith) }

  module _ (l mid : ℕ) (sl : s ≤ l) (fl : f ≤ l) (m : mid ≡ max s f) where
    in_to : (t : ℕ) → s ≤ t → t < mid → between s f t ≡ true
    in_to t a b = between_yes s f t a (omega arith)

    pub first_own : (x : ℕ) → FirstOver load.ts.now load.ld.now load.kept cap s mid x → x < mid → FirstBusy load cap r s f s l x
    first_own x L h g K C =
        let S = L g K in
        record {
          from = S.from;
          to = omega arith;
          has = λ d. busy_in g cap r s f x (in_to x S.from h) (S.has h);
          none_before = λ t a b o. S.none_before t a b (in_busy g cap r s f t (in_to t a (omega arith)) o);
        }

    pub first_beside : (x y : ℕ) → r ≤ cap → FirstOver load.ts.now load.ld.now load.kept cap s mid x → mid ≤ x → FirstOver load.ts.now load.ld.now load.kept (cap - r) mid l y → FirstBusy load cap r s f s l y
    first_beside x y w L h M g K C =
        let S = L g K in
        let T = M g K in
        record {
          from = omega (arith, T.from);
          to = T.to;
          has = λ d. busy_beside g cap r s f y (between_behind s f y (omega (arith, T.from))) (omega (arith, T.has d));
          none_before = λ t a b o.
              elim (dec_lt t mid) [
                | yes d ↦ S.none_before t a (omega arith) (in_busy g cap r s f t (in_to t a d) o)
                | no d ↦ T.none_before t (omega arith) b (omega (arith, beside_busy g cap r s f t (between_behind s f t (omega arith)) o))
              ];
        }
