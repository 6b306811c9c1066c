-- Some jobs of a list apart from the others (document 02, Item 14): their starts by themselves, the list of them alone, and any list that they are among.
use Rattle.std.specs.Prelude.{ℕ, ◌+◌, ◌≤◌, ◌<◌, ◌≡◌, true, List}
use Rattle.lists.specs.Lists.{◌!◌}
use Rattle.lists.specs.Sets.{Set}
use Rattle.lists.specs.Picked.{picked}
use Rattle.narrowing.specs.Windows.{Win, win}
use Rattle.joblist.specs.Limits.{jobs}
use Rattle.timetable.specs.Time.{Jobs, drawn_by}
use Rattle.timetable.specs.Table.{Call, call}

-- starts of the jobs of M by themselves: each within its window, and at every time their demands add up to at most the capacity; no other job counts
pub record Together (J : Jobs) (M : Set) (W : Win) (s : List ℕ) : Type 0 where
  pub from : (k : ℕ) → k < J.n → M k ≡ true → W.e ! k ≤ s ! k
  pub to : (k : ℕ) → k < J.n → M k ≡ true → s ! k + J.p ! k ≤ W.l ! k
  pub fits : (t : ℕ) → drawn_by J M s t ≤ J.cap

-- the list of the jobs of M alone, in their order, with the same capacity and any log
abbrev pub only_of : Set → Call → List ℕ → Call
only_of M c log = call (win (picked M c.win.e) (picked M c.win.l)) (picked M c.p) (picked M c.r) c.cap log

-- c's jobs of M are among those of d, whatever d's others are: each at a place of its own, in no wider a window, no shorter and with no less demand;
-- and there is no more capacity
pub record Among (M : Set) (c d : Call) (π : ℕ → ℕ) : Type 0 where
  pub listed : (k : ℕ) → k < jobs c.win → M k ≡ true → π k < jobs d.win
  pub apart : (i k : ℕ) → i < jobs c.win → k < jobs c.win → M i ≡ true → M k ≡ true → π i ≡ π k → i ≡ k
  pub early : (k : ℕ) → k < jobs c.win → M k ≡ true → c.win.e ! k ≤ d.win.e ! π k
  pub late : (k : ℕ) → k < jobs c.win → M k ≡ true → d.win.l ! π k ≤ c.win.l ! k
  pub lasts : (k : ℕ) → k < jobs c.win → M k ≡ true → c.p ! k ≤ d.p ! π k
  pub takes : (k : ℕ) → k < jobs c.win → M k ≡ true → c.r ! k ≤ d.r ! π k
  pub supply : d.cap ≤ c.cap
