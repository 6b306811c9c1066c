-- Demand 2, once over any rules and any notion of schedule: no step loses a schedule, and where no candidate is left there is none.
use Prim.Native.Nat.{ℕ, ◌+◌, ◌<◌}
use native.Mathlib.Omega.{arith}
use mathlib.Core.Path.{◌≡◌, refl}
use mathlib.Core.List.{List}
use Rattle.lists.specs.Lists.{◌!◌}
use Rattle.lists.proofs.Lists.{sums, sums_at}
use Rattle.narrowing.specs.Windows.{Win, Long}
use Rattle.narrowing.specs.Rules.{Family, Either, Some, Candidate, Largest, NoCandidate, Step}
use Rattle.narrowing.specs.Schedules.{Schedule, Fixed, Sound, Exact}
use Rattle.narrowing.proofs.Families.{stable_left, stable_right, stable_both, stable_one, stable_all}

-- the windows that hold just the jobs started at s
unfoldable pub fixed : List ℕ → List ℕ → Win
fixed p s = record { e = s; l = sums s p }

pub fixed_is : (n : ℕ) (p s : List ℕ) → Fixed n p s (fixed p s)
unfolding fixed
fixed_is n p s = record { early = λ k b. refl; late = λ k b. sums_at s p k }

module _ (n : ℕ) (p : List ℕ) (G : Family) (S : List ℕ → Type 0) (x : Sound n p G S) (W : Win) where
  -- a schedule, read as windows, is a candidate
  pub schedule_candidate : (s : List ℕ) → Schedule n p S W s → Candidate n p G W (fixed p s)
  unfolding Long fixed
  schedule_candidate s f =
      record {
        inside = record { early = f.from; late = λ k b. omega (arith, sums_at s p k, f.to k b) };
        stable = x s (fixed p s) (fixed_is n p s) f.fits;
        long = λ k b. omega (arith, sums_at s p k);
      }

  -- no schedule is lost
  pub step_schedule : (U : Win) → Step n p G W U → (s : List ℕ) → Schedule n p S W s → Schedule n p S U s
  unfolding fixed
  step_schedule U k s f =
      let i = k.kept (fixed p s) (schedule_candidate s f) in
      record { from = i.early; to = λ k b. omega (arith, i.late k b, sums_at s p k); fits = f.fits }

  pub none_schedule : NoCandidate n p G W → (s : List ℕ) → Schedule n p S W s → ⊥
  none_schedule h s f = h (fixed p s) (schedule_candidate s f)

-- where every job is fixed: settled only on a schedule, a clash only where there is none
module _ (n : ℕ) (p : List ℕ) (G : Family) (S : List ℕ → Type 0) (x : Exact n p G S) (W : Win) (all : (k : ℕ) → k < n → W.l ! k ≡ W.e ! k + p ! k) where
  pub fixed_settled : (U : Win) → Largest n p G W U → S W.e
  unfolding Long
  fixed_settled U f =
      let i = f.one.inside in
      let L = f.one.long in
      x.full W.e U
      (record { early = λ k b. omega (arith, i.early k b, i.late k b, L k b, all k b); late = λ k b. omega (arith, i.early k b, i.late k b, L k b, all k b) })
      f.one.stable

  pub fixed_clash : NoCandidate n p G W → S W.e → ⊥
  fixed_clash h c = none_schedule n p G S x.sound W h W.e (record { from = λ k b. omega arith; to = λ k b. omega (arith, all k b); fits = c })

-- families together: more rules for one notion of schedule, and two notions at once
pub exact_more : (n : ℕ) (p : List ℕ) (G H : Family) (S : List ℕ → Type 0) → Exact n p G S → Sound n p H S → Exact n p (Either G H) S
exact_more n p G H S x y =
    record { sound = λ s W f c. stable_both n G H W (x.sound s W f c) (y s W f c); full = λ s W f q. x.full s W f (stable_left n G H W q) }

pub exact_either : (n : ℕ) (p : List ℕ) (G H : Family) (S T : List ℕ → Type 0) → Exact n p G S → Exact n p H T → Exact n p (Either G H) (λ s. S s × T s)
exact_either n p G H S T x y =
    record {
      sound = λ s W f c. stable_both n G H W (x.sound s W f c.0) (y.sound s W f c.1);
      full = λ s W f q. (x.full s W f (stable_left n G H W q), y.full s W f (stable_right n G H W q));
    }

pub exact_some : (n : ℕ) (p : List ℕ) (q : ℕ) (G : ℕ → Family) (S : ℕ → List ℕ → Type 0) → ((k : ℕ) → k < q → Exact n p (G k) (S k))
    → Exact n p (Some q G) (λ s. (k : ℕ) → k < q → S k s)
exact_some n p q G S x =
    record {
      sound = λ s W f c. stable_all n q G W (λ k b. (x k b).sound s W f (c k b));
      full = λ s W f h k b. (x k b).full s W f (stable_one n q G W h k b);
    }
