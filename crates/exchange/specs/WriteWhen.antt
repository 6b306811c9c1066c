-- When the writer refuses by each number, or writes, in facts (proofs/WriteTests.antt).
use Rattle.std.specs.Prelude.{◌≤◌, ◌<◌, ◌≡◌, ◌++◌, ◌⊎◌, length}
use Rattle.lists.specs.Lists.{Every}
use Rattle.joblist.specs.Limits.{most_jobs}
use Rattle.joblist.specs.GoodList.{Sized, Any, Above, Unequal, GoodList}
use Rattle.chains.specs.Paths.{Precedes, Cycle}
use Rattle.chains.specs.Listed.{Rising, NotRising}
use Rattle.exchange.specs.Write.{WriteCall, pairs_in, text_of, write_columns, alone}

-- the lists pass tests 1 to 3
abbrev pub ListsPass : WriteCall → Type 0
ListsPass c = GoodList (length c.dur) (write_columns c) (alone c)

-- the lists of the pairs have one length
abbrev pub Even : WriteCall → Type 0
Even c = length c.successors ≡ length c.jobs

-- 1: durations and demands differ in length; or the lists pass, and those of the pairs differ
abbrev pub Uneven : WriteCall → Type 0
Uneven c = Unequal (length c.dur) (write_columns c) ⊎ (ListsPass c × (Even c → ⊥))

-- 2: more jobs than the limit
abbrev pub TooMany : WriteCall → Type 0
TooMany c = Every (Sized (length c.dur)) (write_columns c) × (most_jobs < length c.dur)

-- 3: a number above its limit
abbrev pub TooGreat : WriteCall → Type 0
TooGreat c = Every (Sized (length c.dur)) (write_columns c) × (length c.dur ≤ most_jobs) × Any Above (write_columns c ++ alone c)

-- 32: a pair out of range or out of order
pub record OutOfPlace (c : WriteCall) : Type 0 where
  pub lists : ListsPass c
  pub even : Even c
  pub fault : NotRising (length c.dur) c.jobs c.successors

-- 33: a cycle
pub record CyclicPairs (c : WriteCall) : Type 0 where
  pub lists : ListsPass c
  pub even : Even c
  pub rising : Rising (length c.dur) c.jobs c.successors
  pub cycle : Cycle (Precedes (pairs_in c))

-- 36: a buffer that is too short
pub record BufferShort (c : WriteCall) : Type 0 where
  pub lists : ListsPass c
  pub even : Even c
  pub rising : Rising (length c.dur) c.jobs c.successors
  pub acyclic : Cycle (Precedes (pairs_in c)) → ⊥
  pub short : length c.buffer < length (text_of c)

-- written: none of these
pub record WritePassed (c : WriteCall) : Type 0 where
  pub lists : ListsPass c
  pub even : Even c
  pub rising : Rising (length c.dur) c.jobs c.successors
  pub acyclic : Cycle (Precedes (pairs_in c)) → ⊥
  pub room : length (text_of c) ≤ length c.buffer
