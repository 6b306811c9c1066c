-- What a reader promises: the answer table, and what ties the lists that it fills to the base: narrowing takes them, and no start times that respect
-- the pairs and the horizon are lost.
use Rattle.std.specs.Prelude.{ℕ, ◌+◌, ◌≤◌, ◌<◌, ◌≡◌, List, length}
use Rattle.lists.specs.Lists.{◌!◌}
use Rattle.answers.specs.Said.{Word}
use Rattle.narrowing.specs.Windows.{Win, win, Long}
use Rattle.narrowing.specs.Schedules.{Schedule}
use Rattle.joblist.specs.Limits.{jobs, four_lists, supply}
use Rattle.joblist.specs.GoodList.{GoodList}
use Rattle.chains.specs.Paths.{Listed, Below, Cycle}
use Rattle.exchange.specs.Calls.{Lent, TextCall, TextAfter}
use Rattle.exchange.specs.Table.{Answered}

-- the windows in the lists
abbrev pub windows_in : Lent → Win
windows_in K = win K.est K.lct

-- the precedences that are written there: the first `count` pairs
abbrev pub ListedIn : Lent → ℕ → ℕ → ℕ → Type 0
ListedIn K count = Listed K.jobs K.successors count

-- start times s that respect the first `count` pairs in the lists and end by the horizon
pub record RespectsPairs (K : Lent) (count horizon : ℕ) (s : List ℕ) : Type 0 where
  pub pairs : (a b : ℕ) → ListedIn K count a b → s ! a + K.dur ! a ≤ s ! b
  pub ends : (j : ℕ) → j < length K.dur → s ! j + K.dur ! j ≤ horizon

-- the capacity and the pair count that are said
abbrev pub capacity : TextAfter → ℕ
capacity a = a.says.numbers ! 0

abbrev pub pair_count : TextAfter → ℕ
pair_count a = a.says.numbers ! 1

-- the contract of a reader; the answer table itself is in facts, and the other fields tie what was read to the base
pub record Reads (c : TextCall) (a : TextAfter) : Type 0 where
  pub answered : Answered c a
  -- the lists pass tests 1 to 3 of document 01
  pub good : a.says.word ≡ Word.read → GoodList (jobs (windows_in a.lent)) (four_lists (windows_in a.lent) a.lent.dur a.lent.dem) (supply (capacity a))
  -- every window is long enough for its job
  pub long : a.says.word ≡ Word.read → Long (jobs (windows_in a.lent)) a.lent.dur (windows_in a.lent)
  -- the pairs that are written are of its jobs, and there is no cycle among them
  pub ordered : a.says.word ≡ Word.read → Below (length a.lent.dur) (ListedIn a.lent (pair_count a)) × (Cycle (ListedIn a.lent (pair_count a)) → ⊥)
  -- all start times that respect the pairs and end by the horizon lie within the windows
  pub kept : a.says.word ≡ Word.read → (s : List ℕ) → RespectsPairs a.lent (pair_count a) c.horizon s
      → Schedule (length a.lent.dur) a.lent.dur (RespectsPairs a.lent (pair_count a) c.horizon) (windows_in a.lent) s
