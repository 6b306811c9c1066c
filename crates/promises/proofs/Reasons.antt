-- The answer table's log is what narrowing promises of it: the records of the run's moves, in their order, with the closing one last.
use Prim.Native.Nat.{ℕ, zero, suc, ◌≤◌}
use native.Mathlib.Omega.{arith}
use mathlib.Core.Path.{◌≡◌, refl, sym, ap, subst}
use mathlib.Core.List.{List, map}
use lib.ListN.{length}
use Rattle.lists.specs.Lists.{◌!◌}
use Rattle.narrowing.specs.Windows.{early}
use Rattle.narrowing.specs.Search.{Move}
use Rattle.narrowing.specs.Rounds.{Chosen}
use Rattle.narrowing.specs.Led.{Clashed, Reached}
use Rattle.narrowing.specs.Run.{Out, settled, clash, short, moves_of}
use Rattle.narrowing.proofs.Runs.{Bounded, run_chosen, run_bounded}
use Rattle.narrowing.proofs.Again.{run_reached}
use Rattle.answers.specs.Said.{Word, Said}
use Rattle.answers.proofs.Same.{said_apart}
use Rattle.journal.specs.Journal.{record_at, logged}
use Rattle.promises.specs.Ask.{Ask, Grounds, Good, refusal_of}
use Rattle.promises.specs.Table.{After, ended, ran, tabled}
use Rattle.promises.specs.Reasons.{Logged, Reasons}
use Rattle.promises.proofs.Calls.{admitted_call, whole}

module _ (A : Ask) (x : Grounds A) where
  -- the log of the moves of a good list
  logs_of : Good A → (a : After) (ms : List Move) → a.log ≡ logged (map A.entry ms) A.log → Chosen A.search A.rules A.win 0 early ms
      → length ms ≤ A.room → (n : ℕ) → length ms ≡ n → Logged A a n
  logs_of g a ms l c b n z =
      record {
        moves = ms;
        many = z;
        log = l;
        chosen = c;
        fine = λ i h. subst (λ (y : List ℕ). A.fine (record_at y i)) (sym l) (x.fine g ms c b i (omega arith));
      }

  ended_reasons : Good A → (o : Out) → Chosen A.search A.rules A.win 0 early (moves_of o) → Bounded A.search A.room A.win o
      → Reached A.search A.win o → Reasons A (ended A o)
  unfolding ended logs_of
  ended_reasons g (settled U ms) c b r =
      record {
        settled = λ n e.
            let z : length ms ≡ n = ap (λ (y : Said). y.numbers ! 0) e in
            record { logs = logs_of g _ ms refl c b.1 n z; led = r; most = omega (arith, b.0) };
        clash = λ n j e. said_apart Word.settled Word.clash _ _ (λ q. omega arith) e;
      }
  ended_reasons g (clash i ms) c b r =
      record {
        settled = λ n e. said_apart Word.clash Word.settled _ _ (λ q. omega arith) e;
        clash = λ n j e.
            let z : length ms ≡ n = ap (λ (y : Said). y.numbers ! 0) e in
            record {
              logs = logs_of g _ ms refl c b.1 n z;
              clashed = subst (Clashed A.search A.win ms) (ap (λ (y : Said). y.numbers ! 1) e) r;
              most = omega (arith, b.0);
            };
      }
  ended_reasons g short c b r =
      record {
        settled = λ n e. said_apart Word.refused Word.settled _ _ (λ q. omega arith) e;
        clash = λ n j e. said_apart Word.refused Word.clash _ _ (λ q. omega arith) e;
      }

  pub reasons_by : (k : ℕ) → refusal_of A ≡ k → Reasons A (tabled A k)
  unfolding tabled
  reasons_by zero e =
      let g = (admitted_call A e).0 in
      ended_reasons g (ran A)
      (run_chosen A.search A.rules x.searches A.room A.win)
      (run_bounded A.search A.rules x.searches x.lawful A.room A.win (whole A g))
      (run_reached A.search A.rules x.searches A.room A.win)
  reasons_by (suc k) e =
      record {
        settled = λ n e. said_apart Word.refused Word.settled _ _ (λ q. omega arith) e;
        clash = λ n j e. said_apart Word.refused Word.clash _ _ (λ q. omega arith) e;
      }
