-- What the writer's inner functions say: bytes put into a sink from a place on, and the pairs passed over job by job. A sink can run dry: nothing is
-- written then, and all is counted.
use Rattle.std.specs.Prelude.{ℕ, ◌+◌, ◌*◌, ◌≤◌, ◌<◌, ◌≡◌, Bool, false, cond, List, [], ◌∷◌, ◌++◌, ltb, length, take, drop, Option}
use Rattle.std.specs.Borrow.{GName}
use Rattle.lists.specs.Lists.{◌!◌}
use Rattle.joblist.specs.Limits.{most_jobs}
use Rattle.projects.specs.Form.{line_of}

-- no text that we write has more bytes than this: eleven at most for a number and the byte behind it (proofs/Counts.antt)
abbrev pub most_bytes : ℕ
most_bytes = 100 + 34 * most_jobs + 11 * (most_jobs * most_jobs)

-- the bytes t from the place `at` on, all others as in the buffer
abbrev pub pasted : ℕ → List ℕ → List ℕ → List ℕ
pasted at t buffer = take at buffer ++ (t ++ drop (at + length t) buffer)

-- the bytes t are put from the place `at` on, and r is the place behind them
pub record Put (dry : Bool) (at : ℕ) (t buffer after : List ℕ) (r : ℕ) : Type 0 where
  pub place : r ≡ at + length t
  pub bytes : after ≡ cond dry buffer (pasted at t buffer)

-- the bytes t from the place `at` on can be counted, and have room where they are written
pub record RoomFor (dry : Bool) (at : ℕ) (t buffer : List ℕ) : Type 0 where
  pub few : at + length t ≤ most_bytes
  pub room : dry ≡ false → at + length t ≤ length buffer

-- a sink: the place of the next byte, the bytes of its buffer, and which buffer that is, where there is one
pub record Held : Type 0 where
  pub place : ℕ
  pub buffer : List ℕ
  pub lent : Option GName

-- the bytes t have room in a sink
abbrev pub Takes : Bool → List ℕ → Held → Type 0
Takes dry t s = RoomFor dry s.place t s.buffer

-- the bytes t are put into a sink, which stays with its buffer
pub record Sent (dry : Bool) (t : List ℕ) (s s' : Held) : Type 0 where
  pub put : Put dry s.place t s.buffer s'.buffer s'.place
  pub same : s'.lent ≡ s.lent

-- from place i to place r there is job j alone, and at r it is not
pub record RunEnds (js : List ℕ) (j i r : ℕ) : Type 0 where
  pub from : i ≤ r
  pub within : r ≤ length js
  pub same : (k : ℕ) → i ≤ k → k < r → js ! k ≡ j
  pub stops : r < length js → js ! r ≡ j → ⊥

-- m is the byte behind a number where others follow from place i on, up to place `to`
pub record Marked (i to m : ℕ) : Type 0 where
  pub byte : m ≡ cond (ltb i to) 32 10

-- what stands behind the byte behind a number: the rest of the line, by the numbers that are left on it
abbrev pub rest_of : List ℕ → List ℕ
rest_of [] = []
rest_of (v ∷ vs) = line_of (v ∷ vs)

-- one job's successors: there are not too many to be counted, and each is a job's number
pub record OwnJobs (own : List ℕ) : Type 0 where
  pub few : length own ≤ most_jobs * most_jobs
  pub below : (k : ℕ) → k < length own → own ! k < most_jobs
