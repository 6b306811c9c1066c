-- What the readers' inner functions say: the lengths that are wanted; the lists written.
use Rattle.std.specs.Prelude.{ℕ, ◌+◌, ◌≤◌, ◌<◌, ◌≡◌, Bool, true, false, List, ◌++◌, map, length, drop, take}
use Rattle.lists.specs.Lists.{◌!◌}
use Rattle.joblist.specs.Limits.{most_jobs}
use Rattle.chains.specs.Paths.{Pair}
use Rattle.texts.specs.Tokens.{Token}
use Rattle.texts.specs.Readings.{Read, good}
use Rattle.exchange.specs.Tests.{Fitting, Misfit}
use Rattle.lent.specs.declared.Sizes.{Sizes}
use Rattle.lent.specs.declared.Draft.{Draft}

-- whether the lengths of the six lists fit n jobs and m pairs
abbrev pub RoomSays : Sizes → ℕ → ℕ → Bool → Type 0
RoomSays z n m true = Fitting n m z.est z.lct z.dur z.dem z.jobs z.successors
RoomSays z n m false = Misfit n m z.est z.lct z.dur z.dem z.jobs z.successors

-- the horizon less each number
pub record Lessened (tails : List ℕ) (h : ℕ) (to to' : List ℕ) : Type 0 where
  pub long : length to' ≡ length to
  pub each : (j : ℕ) → j < length to → to' ! j + tails ! j ≡ h

-- four arrays
pub record Drafted (d : Draft) : Type 0 where
  pub heads : length d.heads ≡ most_jobs
  pub tails : length d.tails ≡ most_jobs
  pub dur : length d.dur ≡ most_jobs
  pub dem : length d.dem ≡ most_jobs

-- the four lists of the jobs filled from them
pub record FilledFrom (f : Draft) (h : ℕ) (e l d q e' l' d' q' : List ℕ) : Type 0 where
  pub est : e' ≡ take (length e) f.heads
  pub lct : Lessened f.tails h l l'
  pub dur : d' ≡ take (length d) f.dur
  pub dem : q' ≡ take (length q) f.dem

-- the pairs can be read, and both lists have room for them
pub record Roomy (r : Read (List Pair)) (js ss : List ℕ) : Type 0 where
  pub ps : List Pair
  pub end : List Token
  pub come : r ≡ good ps end
  pub jobs : length ps ≤ length js
  pub successors : length ps ≤ length ss

-- the pairs in front, the rest as it was
pub record Wrote (r : Read (List Pair)) (js ss js' ss' : List ℕ) : Type 0 where
  pub are : (ps : List Pair) (end : List Token) → r ≡ good ps end → (js' ≡ map (λ (p : Pair). p.job) ps ++ drop (length ps) js) × (ss' ≡ map (λ (p : Pair). p.successor) ps ++ drop (length ps) ss)
