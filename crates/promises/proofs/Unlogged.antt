-- The answer table with enough room, its log and numbers left out (an empty log is not ragged), meets the contract of a call without them: so there is an
-- answer to every task whose rules are lawful and have a search.
use Prim.Native.Nat.{ℕ, zero, suc, ◌≤◌}
use native.Mathlib.Omega.{arith}
use mathlib.Core.Path.{◌≡◌, refl, sym, ap, ◌∙◌}
use mathlib.Core.List.{[], ◌∷◌}
use mathlib.Core.Logic.{inl, inr}
use Rattle.lists.specs.Lists.{◌!◌}
use Rattle.narrowing.specs.Windows.{slack}
use Rattle.narrowing.specs.Led.{Reached}
use Rattle.narrowing.specs.Run.{Out, settled, clash, short}
use Rattle.narrowing.proofs.Runs.{run_good, never_short}
use Rattle.narrowing.proofs.Runs as runs
use Rattle.narrowing.proofs.Again.{run_reached}
use Rattle.answers.specs.Said.{Word, Said, said}
use Rattle.answers.proofs.Same.{not_said, said_apart}
use Rattle.joblist.specs.GoodList.{Given}
use Rattle.promises.specs.Ask.{Ask, Grounds, job_count, lasts, Good, TurnedAway, refusal_of}
use Rattle.promises.specs.Ask as ask
use Rattle.promises.specs.Table.{ended, ran, tabled, narrowed}
use Rattle.promises.specs.Promise.{HasRoom}
use Rattle.promises.specs.Plain.{task_of, unlogged, Plain}
use Rattle.promises.proofs.Calls.{admitted_call, call_admitted, away_exactly, admitted_not_away, whole}

module _ (A : Ask) (x : Grounds A) (enough : HasRoom A (suc (slack (lasts A) A.win (job_count A)))) where
  -- no refusal is a good list's
  good_given : Good A → (k : ℕ) → 1 ≤ k → Given k (job_count A) (ask.columns A) A.alone → ⊥
  good_given g k b t = admitted_not_away A (g, enough.0) k (inl (b, t))

  -- and none is that of a ragged log
  given_away : (k : ℕ) → TurnedAway A k → (1 ≤ k) × Given k (job_count A) (ask.columns A) A.alone
  given_away k (inl t) = t
  given_away k (inr t) = absurd (t.2 enough.0)

  plain-run : Good A → (o : Out) → ran A ≡ o → runs.Good (job_count A) (lasts A) A.rules A.win o → Reached A.search A.win o → Plain (task_of A) (unlogged (ended A o))
  unfolding ended
  plain-run g (settled U ms) e h r =
      record {
        refused = λ k. (λ q. said_apart Word.settled Word.refused _ _ (λ z. omega arith) q, λ t. absurd (good_given g k t.0 t.1));
        decided = λ i. inl refl;
        settled = λ q. (g, h);
        clash = λ q. absurd (not_said Word.settled Word.clash (λ z. omega arith) q);
        submitted = λ f. absurd (f refl);
        lengths = r.lengths;
      }
  plain-run g (clash j ms) e h r =
      record {
        refused = λ k. (λ q. said_apart Word.clash Word.refused _ _ (λ z. omega arith) q, λ t. absurd (good_given g k t.0 t.1));
        decided = λ i. inr refl;
        settled = λ q. absurd (not_said Word.clash Word.settled (λ z. omega arith) q);
        clash = λ q. (g, h);
        submitted = λ f. refl;
        lengths = record { early = refl; late = refl };
      }
  plain-run g short e h r = absurd (never_short A.search A.rules x.searches x.lawful A.room A.win (whole A g) enough.1 e)

  plain_by : (k : ℕ) → refusal_of A ≡ k → Plain (task_of A) (unlogged (tabled A k))
  unfolding tabled
  plain_by zero e =
      plain-run (admitted_call A e).0 (ran A) refl (run_good A.search A.rules x.searches x.lawful A.room A.win)
      (run_reached A.search A.rules x.searches A.room A.win)
  plain_by (suc k) e =
      record {
        refused = λ m. (
          λ q. let z : suc k ≡ m = ap (λ (y : Said). y.numbers ! 0) q in given_away m ((away_exactly A m).0 (omega arith, e ∙ z)),
          λ t. ap (λ (i : ℕ). said Word.refused (i ∷ [])) (sym e ∙ ((away_exactly A m).1 (inl t)).1),
        );
        decided = λ g. absurd (omega (arith, sym e ∙ call_admitted A (g, enough.0)));
        settled = λ q. absurd (not_said Word.refused Word.settled (λ z. omega arith) q);
        clash = λ q. absurd (not_said Word.refused Word.clash (λ z. omega arith) q);
        submitted = λ f. refl;
        lengths = record { early = refl; late = refl };
      }

  pub plain : Plain (task_of A) (unlogged (narrowed A))
  unfolding narrowed
  plain = plain_by (refusal_of A) refl
