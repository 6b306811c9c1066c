-- Laws over narrowing's contract and any rules: the same jobs in another order get the same refusal 1 to 3, and 7 with a ragged log again; with room for
-- both runs, the same window for each job, or a clash again.
use Prim.Native.Nat.{ℕ, ◌≤◌}
use native.Mathlib.Omega.{arith}
use mathlib.Core.Path.{◌≡◌, sym, ap, subst, ◌∙◌}
use mathlib.Core.List.{[], ◌∷◌}
use mathlib.Core.Logic.{◌⊎◌, inl, inr}
use Rattle.lists.specs.Permutations.{Permutes}
use Rattle.lists.proofs.Permutations.{turned, list_back}
use Rattle.narrowing.specs.Windows.{Win}
use Rattle.narrowing.specs.Rules.{Largest, NoCandidate}
use Rattle.narrowing.specs.Renumbered.{SameWin}
use Rattle.narrowing.proofs.Renumbered.{win_back, largest_same, none_same}
use Rattle.answers.specs.Said.{Word, Said, said}
use Rattle.joblist.specs.GoodList.{Given, refusal}
use Rattle.joblist.proofs.Renumbered.{refusal_turned}
use Rattle.joblist.proofs.Refusals.{refusal_exactly}
use Rattle.journal.specs.Journal.{Ragged}
use Rattle.promises.specs.Ask.{Ask, job_count, Good}
use Rattle.promises.specs.Table.{After}
use Rattle.promises.specs.Promise.{Room, RefusedRow, Narrows}
use Rattle.promises.specs.Reordered.{SameTask, SameAsk}
use Rattle.promises.specs.Plain.{Task, task_of, columns, Left, Plain}
use Rattle.promises.proofs.Ragged.{ragged_exactly}

-- ---- of the lists alone

module _ (π σ : ℕ → ℕ) (K L : Task) (t : Permutes K.n π σ) (s : SameTask π σ K L) where
  task_refusal : refusal L.n (columns L) L.alone ≡ refusal K.n (columns K) K.alone
  task_refusal =
      ap (λ (n : ℕ). refusal n (columns L) L.alone) s.count
      ∙ ap (refusal K.n (columns L)) s.numbers
      ∙ refusal_turned K.n π σ t (columns K) (columns L) K.alone s.lists

  given_there : (k : ℕ) → Given k K.n (columns K) K.alone → Given k L.n (columns L) L.alone
  given_there k x = (refusal_exactly L.n (columns L) L.alone k).0 (task_refusal ∙ (refusal_exactly K.n (columns K) K.alone k).1 x)

  -- the largest windows of the renumbered jobs are the renumbered ones; where those jobs have none the first have none, and the other way round
  pub same_largest : (X Y : Win) → Largest K.n K.p K.rules K.win X → Largest L.n L.p L.rules L.win Y → SameWin K.n π X Y
  same_largest X Y f g =
      largest_same K.n π σ t K.p L.p s.durations K.rules L.rules s.there s.back K.win L.win X Y s.windows f
      (subst (λ (m : ℕ). Largest m L.p L.rules L.win Y) s.count g)

  pub none_here : NoCandidate L.n L.p L.rules L.win → NoCandidate K.n K.p K.rules K.win
  none_here f =
      none_same K.n π σ t K.p L.p s.durations K.rules L.rules s.there K.win L.win s.windows
      (subst (λ (m : ℕ). NoCandidate m L.p L.rules L.win) s.count f)

  pub none_there : NoCandidate K.n K.p K.rules K.win → NoCandidate L.n L.p L.rules L.win
  none_there f =
      subst (λ (m : ℕ). NoCandidate m L.p L.rules L.win) (sym s.count)
      (none_same K.n σ π (turned K.n π σ t) L.p K.p (list_back K.n π σ t K.p L.p s.durations) L.rules K.rules s.back
      L.win K.win (win_back K.n π σ t K.win L.win s.windows) f)

  -- ---- without a log and without numbers: the same refusal, a clash again, or the same window for each job

  module _ (a b : Left) (f : Plain K a) (g : Plain L b) where
    says_word : (c : Left) (x : Said) → c.says ≡ x → c.says.word ≡ x.word
    says_word c x e = ap (λ (y : Said). y.word) e

    pub plain_refused_there : (k : ℕ) → a.says ≡ said Word.refused (k ∷ []) → b.says ≡ said Word.refused (k ∷ [])
    plain_refused_there k e = let x = (f.refused k).0 e in (g.refused k).1 (x.0, given_there k x.1)

    pub plain_settled_there : a.says ≡ said Word.settled [] → (b.says ≡ said Word.settled []) × SameWin K.n π a.win b.win
    plain_settled_there e = go (g.decided (given_there 0 (f.settled (says_word a _ e)).0))
      where
        big : Largest K.n K.p K.rules K.win a.win
        big = (f.settled (says_word a _ e)).1

        go : (b.says ≡ said Word.settled []) ⊎ (b.says ≡ said Word.clash []) → (b.says ≡ said Word.settled []) × SameWin K.n π a.win b.win
        go (inl q) = (q, same_largest a.win b.win big (g.settled (says_word b _ q)).1)
        go (inr q) = absurd (none_here (g.clash (says_word b _ q)).1 a.win big.one)

    pub plain_clash_there : a.says ≡ said Word.clash [] → b.says ≡ said Word.clash []
    plain_clash_there e = go (g.decided (given_there 0 (f.clash (says_word a _ e)).0))
      where
        go : (b.says ≡ said Word.settled []) ⊎ (b.says ≡ said Word.clash []) → b.says ≡ said Word.clash []
        go (inl q) = absurd (none_there (f.clash (says_word a _ e)).1 b.win (g.settled (says_word b _ q)).1.one)
        go (inr q) = q

-- ---- with a log

module _ (π σ : ℕ → ℕ) (A B : Ask) (t : Permutes (job_count A) π σ) (s : SameAsk π σ A B) where
  pub good_there : Good A → Good B
  good_there = given_there π σ (task_of A) (task_of B) t s 0

  module _ (a b : After) (f : Narrows A a) (g : Narrows B b) where
    -- the same refusal, 1 to 3
    pub refused_there : (k : ℕ) → k ≤ 3 → a.says ≡ said Word.refused (k ∷ []) → b.says ≡ said Word.refused (k ∷ [])
    refused_there k m e = go ((f.exactly.refused k).0 e)
      where
        go : RefusedRow A k → b.says ≡ said Word.refused (k ∷ [])
        go (inl (inl (i, z))) =
            (g.exactly.refused k).1
            (inl (inl (i, given_there π σ (task_of A) (task_of B) t s k z)))
        go (inl (inr z)) = absurd (omega (arith, z.0))
        go (inr z) = absurd (omega (arith, z.0))

    -- 7 again where the other log is ragged too
    pub ragged_there : Ragged B.log → a.says ≡ said Word.refused (7 ∷ []) → b.says ≡ said Word.refused (7 ∷ [])
    ragged_there h e = (ragged_exactly B b g.exactly).1 (good_there ((ragged_exactly A a f.exactly).0 e).0, h)

    module _ (good : Good A) (room : Room A) (space : Room B) where
      -- a settled answer here is one there, with the same window for each job
      pub settled_there : a.says.word ≡ Word.settled → (b.says.word ≡ Word.settled) × SameWin (job_count A) π a.win b.win
      settled_there e = go ((g.largest (good_there good)).decided space)
        where
          go : (b.says.word ≡ Word.settled) ⊎ (b.says.word ≡ Word.clash) → (b.says.word ≡ Word.settled) × SameWin (job_count A) π a.win b.win
          go (inl y) = (y, same_largest π σ (task_of A) (task_of B) t s a.win b.win ((f.largest good).settled e) ((g.largest (good_there good)).settled y))
          go (inr y) =
              let u = ((f.largest good).exists room).0 e in
              absurd (none_here π σ (task_of A) (task_of B) t s (((g.largest (good_there good)).clash space).0 y) u.0 u.1)

      -- a clash here is a clash there
      pub clash_there : a.says.word ≡ Word.clash → b.says.word ≡ Word.clash
      clash_there e = ((g.largest (good_there good)).clash space).1 (none_there π σ (task_of A) (task_of B) t s (((f.largest good).clash room).0 e))
