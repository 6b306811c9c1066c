-- Laws over time-tabling's contract: the same jobs in another order get the same refusal 1 to 3, and 7 with a ragged log again; with room for both runs, the
-- same window for each job, or a clash again. They are those of narrowing by rules, since time-tabling does not look at the jobs' numbers.
use Prim.Native.Nat.{ℕ, ◌≤◌}
use mathlib.Core.Path.{◌≡◌, refl, ap}
use mathlib.Core.List.{List, [], ◌∷◌}
use lib.ListN.{length}
use Rattle.lists.specs.Permutations.{Permutes, SameList}
use Rattle.narrowing.specs.Renumbered.{SameWin}
use Rattle.answers.specs.Said.{Word, said}
use Rattle.joblist.specs.Limits.{jobs, supply}
use Rattle.joblist.specs.Renumbered.{SameColumn}
use Rattle.journal.specs.Journal.{Ragged}
use Rattle.promises.specs.Reordered.{SameAsk}
use Rattle.promises.proofs.Reordered as general
use Rattle.timetable.specs.Table.{Call, jobs_of, asks, Good, After}
use Rattle.timetable.specs.Promise.{Room, Narrows}
use Rattle.timetable.specs.Reordered.{SameCall}
use Rattle.timetable.proofs.Order.{SameJobs, alike, alike_back}
use Rattle.timetable.proofs.Meaning.{by_rules}

module _ (π σ : ℕ → ℕ) (c d : Call) (t : Permutes (jobs c.win) π σ) (s : SameCall π c d) where
  same_jobs : SameJobs π (jobs_of c) (jobs_of d)
  same_jobs = record { count = s.count; supply = s.supply; lasts = s.lasts; takes = s.takes }

  column : (xs ys : List ℕ) (most : ℕ) → length ys ≡ length xs → SameList (jobs c.win) π xs ys
      → SameColumn (jobs c.win) π (record { list = xs; most = most }) (record { list = ys; most = most })
  column xs ys most e f = record { limit = refl; size = e; numbers = λ z. f }

  same_ask : SameAsk π σ (asks c) (asks d)
  same_ask =
      record {
        count = s.count;
        lists = (
          column _ _ _ s.count s.windows.early,
          (column _ _ _ s.ends s.windows.late, (column _ _ _ s.durations s.lasts, (column _ _ _ s.draws s.takes, tt))),
        );
        numbers = ap supply s.supply;
        windows = s.windows;
        durations = s.lasts;
        there = alike π σ (jobs_of c) (jobs_of d) t same_jobs;
        back = alike_back π σ (jobs_of c) (jobs_of d) t same_jobs;
      }

  module _ (a b : After) (f : Narrows c a) (g : Narrows d b) where
    -- the same refusal, 1 to 3
    pub refused_there : (k : ℕ) → k ≤ 3 → a.says ≡ said Word.refused (k ∷ []) → b.says ≡ said Word.refused (k ∷ [])
    refused_there = general.refused_there π σ (asks c) (asks d) t same_ask a b (by_rules c a f) (by_rules d b g)

    -- 7 again where the other log is ragged too
    pub ragged_there : Ragged d.log → a.says ≡ said Word.refused (7 ∷ []) → b.says ≡ said Word.refused (7 ∷ [])
    ragged_there = general.ragged_there π σ (asks c) (asks d) t same_ask a b (by_rules c a f) (by_rules d b g)

    module _ (good : Good c) (room : Room c) (space : Room d) where
      -- a settled answer here is one there, with the same window for each job
      pub settled_there : a.says.word ≡ Word.settled → (b.says.word ≡ Word.settled) × SameWin (jobs c.win) π a.win b.win
      settled_there = general.settled_there π σ (asks c) (asks d) t same_ask a b (by_rules c a f) (by_rules d b g) good room space

      -- a clash here is a clash there
      pub clash_there : a.says.word ≡ Word.clash → b.says.word ≡ Word.clash
      clash_there = general.clash_there π σ (asks c) (asks d) t same_ask a b (by_rules c a f) (by_rules d b g) good room space
