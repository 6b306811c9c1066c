-- The answer table of a reader (document 02, Items 1 and 13): what it says and leaves, by the number of the first test that fails.
use Rattle.std.specs.Prelude.{ℕ, zero, suc, ◌+◌, ◌<◌, ◌≡◌, List, [], ◌∷◌, ◌++◌, map, length, drop}
use Rattle.lists.specs.Lists.{◌!◌}
use Rattle.answers.specs.Said.{Word, said}
use Rattle.chains.specs.Paths.{Pair, Longest, Back}
use Rattle.texts.specs.Tokens.{Token}
use Rattle.texts.specs.Readings.{good}
use Rattle.projects.specs.Projects.{Project, pairs_of, durations, demands_on}
use Rattle.exchange.specs.Calls.{Lent, TextCall, TextAfter, Order, duration_of}
use Rattle.exchange.specs.Tests.{Refusal}

-- the lists K filled from x, L being those that were lent
pub record Filled (x : Project) (resource horizon : ℕ) (L K : Lent) : Type 0 where
  pub est_long : length K.est ≡ length x.rows
  pub lct_long : length K.lct ≡ length x.rows
  -- the longest chain before the job; the horizon less the longest chain after it
  pub est : (j : ℕ) → j < length x.rows → Longest (Order x) (duration_of x) j (K.est ! j)
  pub lct : (j : ℕ) → j < length x.rows → (m : ℕ) × Longest (Back (Order x)) (duration_of x) j m × (K.lct ! j + m ≡ horizon)
  pub dur : K.dur ≡ durations x.rows
  pub dem : K.dem ≡ demands_on resource x.rows
  -- the pairs in text order, then what stood there
  pub jobs : K.jobs ≡ map (λ (p : Pair). p.job) (pairs_of x) ++ drop (length (pairs_of x)) L.jobs
  pub successors : K.successors ≡ map (λ (p : Pair). p.successor) (pairs_of x) ++ drop (length (pairs_of x)) L.successors

-- a text that is read: the capacity and the pair count are said
pub record Taken (c : TextCall) (a : TextAfter) : Type 0 where
  pub x : Project
  pub rest : List Token
  pub text : c.text ≡ good x rest
  pub says : a.says ≡ said Word.read (x.capacities ! c.resource ∷ length (pairs_of x) ∷ [])
  pub filled : Filled x c.resource c.horizon c.lent a.lent

-- by the number of the refusal: none, or that one, and every lent word as it was
abbrev pub Leaves : TextCall → TextAfter → ℕ → Type 0
Leaves c a zero = Taken c a
Leaves c a (suc k) = a ≡ record { says = said Word.refused (suc k ∷ []); lent = c.lent }

-- the answer table
pub record Answered (c : TextCall) (a : TextAfter) : Type 0 where
  pub number : ℕ
  pub refusal : Refusal c number
  pub leaves : Leaves c a number
