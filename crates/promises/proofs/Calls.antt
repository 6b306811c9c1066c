-- A call is admitted exactly where no test refuses it, and turned away with the number of the first test that fails; the lists of a good one hold all its
-- jobs.
use Prim.Native.Nat.{ℕ, zero, suc, ◌≤◌}
use native.Mathlib.Omega.{arith}
use mathlib.Core.Path.{◌≡◌, refl, sym, subst, ◌∙◌}
use mathlib.Core.Bool.{Bool, true, false}
use mathlib.Core.Logic.{◌⊎◌, inl, inr, ◌↔◌}
use Rattle.lists.proofs.Judged.{fact_passes, fault_fails}
use Rattle.narrowing.proofs.Moves.{Whole}
use Rattle.joblist.specs.GoodList.{refusal}
use Rattle.joblist.proofs.Refusals.{refusal_exactly, refusal_most, good, refused_none}
use Rattle.journal.specs.Journal.{Ragged, is_whole}
use Rattle.journal.proofs.Records.{whole_judged}
use Rattle.promises.specs.Ask.{Ask, job_count, columns, Good, Admitted, TurnedAway, refusal_of}

module _ (A : Ask) where
  -- ---- the number from the facts

  pub call_admitted : Admitted A → refusal_of A ≡ 0
  unfolding refusal_of
  call_admitted (g, w) = rw (refused_none (job_count A) (columns A) A.alone g, fact_passes (whole_judged A.log) w)

  pub away_refused : (k : ℕ) → TurnedAway A k → refusal_of A ≡ k
  unfolding refusal_of
  away_refused zero (inl (b, t)) = absurd (omega arith)
  away_refused (suc k) (inl (b, t)) = rw ((refusal_exactly (job_count A) (columns A) A.alone (suc k)).1 t)
  away_refused k (inr (e, g, f)) = rw (refused_none (job_count A) (columns A) A.alone g, fault_fails (whole_judged A.log) f) (sym e)

  -- ---- and back

  away_some : (k : ℕ) → TurnedAway A k → 1 ≤ k
  away_some k (inl (b, t)) = b
  away_some k (inr (e, g, f)) = omega arith

  -- every call is admitted or turned away
  decided : Admitted A ⊎ ((k : ℕ) × TurnedAway A k)
  decided = by_lists _ refl
    where
      by_log : Good A → (b : Bool) → is_whole A.log ≡ b → Admitted A ⊎ ((k : ℕ) × TurnedAway A k)
      by_log g true e = inl (g, (whole_judged A.log).passed e)
      by_log g false e = inr (7, inr (refl, g, (whole_judged A.log).failed e))

      by_lists : (k : ℕ) → refusal (job_count A) (columns A) A.alone ≡ k → Admitted A ⊎ ((k : ℕ) × TurnedAway A k)
      by_lists zero e = by_log (good (job_count A) (columns A) A.alone e) (is_whole A.log) refl
      by_lists (suc k) e = inr (suc k, inl (omega arith, (refusal_exactly (job_count A) (columns A) A.alone (suc k)).0 e))

  pub admitted_call : refusal_of A ≡ 0 → Admitted A
  admitted_call e = go decided
    where
      go : Admitted A ⊎ ((k : ℕ) × TurnedAway A k) → Admitted A
      go (inl a) = a
      go (inr (k, t)) = absurd (omega (arith, away_some k t, sym (away_refused k t) ∙ e))

  -- refusal k comes before the work exactly when the answer table says so
  pub away_exactly : (k : ℕ) → ((1 ≤ k) × (refusal_of A ≡ k)) ↔ TurnedAway A k
  away_exactly k = (λ h. go h.0 h.1 decided, λ t. (away_some k t, away_refused k t))
    where
      go : 1 ≤ k → refusal_of A ≡ k → Admitted A ⊎ ((k : ℕ) × TurnedAway A k) → TurnedAway A k
      go b e (inl a) = absurd (omega (arith, sym (call_admitted a) ∙ e))
      go b e (inr (m, t)) = subst (TurnedAway A) (sym (away_refused m t) ∙ e) t

  -- no call is both
  pub admitted_not_away : Admitted A → (k : ℕ) → TurnedAway A k → ⊥
  admitted_not_away a k t = omega (arith, away_some k t, sym (call_admitted a) ∙ away_refused k t)

  -- 7 is given exactly where the list is good and its log is ragged
  pub away_seven : TurnedAway A 7 ↔ (Good A × Ragged A.log)
  away_seven = (there, λ y. inr (refl, y.0, y.1))
    where
      there : TurnedAway A 7 → Good A × Ragged A.log
      there (inl y) = absurd y.1
      there (inr y) = (y.1, y.2)

  -- 5 is never given before the work
  pub away_not_five : (k : ℕ) → TurnedAway A k → k ≡ 5 → ⊥
  away_not_five k (inl (b, t)) e = omega (arith, refusal_most (job_count A) (columns A) A.alone, (refusal_exactly (job_count A) (columns A) A.alone k).1 t)
  away_not_five k (inr (d, g, f)) e = omega arith

pub whole : (A : Ask) → Good A → Whole (job_count A) A.win
whole A g = record { early = omega (arith, g.sized.0); late = omega (arith, g.sized.1) }
