-- When a reader refuses by each number, or reads, in facts (proofs/When.antt): of a call whose text says x, and of one whose text meets a refusal.
use Rattle.std.specs.Prelude.{ℕ, ◌≤◌, ◌<◌, ◌≡◌, List, ◌⊎◌, length}
use Rattle.joblist.specs.Limits.{most_time}
use Rattle.chains.specs.Paths.{Cycle}
use Rattle.texts.specs.Tokens.{Token}
use Rattle.texts.specs.Readings.{bad, good}
use Rattle.projects.specs.Projects.{Project}
use Rattle.exchange.specs.Calls.{TextCall, Order}
use Rattle.exchange.specs.Tests.{ListsFit, Unfit, TooLong}

-- the horizon is within its limit, and the text meets k
pub record Meets (c : TextCall) (k : ℕ) : Type 0 where
  pub near : c.horizon ≤ most_time
  pub text : c.text ≡ bad k

-- the horizon is above its limit, or the text meets a number above one
abbrev pub AboveLimit : TextCall → Type 0
AboveLimit c = (most_time < c.horizon) ⊎ Meets c 31

-- the horizon is within its limit, and the text says x
pub record Says (c : TextCall) : Type 0 where
  pub near : c.horizon ≤ most_time
  pub x : Project
  pub rest : List Token
  pub text : c.text ≡ good x rest

-- 37: no such resource
pub record NoResource (c : TextCall) : Type 0 where
  pub says : Says c
  pub none : length says.x.capacities ≤ c.resource

-- 38: there is, but a list or the room does not fit
pub record NoRoom (c : TextCall) : Type 0 where
  pub says : Says c
  pub chosen : c.resource < length says.x.capacities
  pub unfit : Unfit says.x c.lent

-- 33: they do, but there is a cycle
pub record Cyclic (c : TextCall) : Type 0 where
  pub says : Says c
  pub chosen : c.resource < length says.x.capacities
  pub fits : ListsFit says.x c.lent
  pub cycle : Cycle (Order says.x)

-- 34: there is none, but a chain is too long
pub record ChainTooLong (c : TextCall) : Type 0 where
  pub says : Says c
  pub chosen : c.resource < length says.x.capacities
  pub fits : ListsFit says.x c.lent
  pub acyclic : Cycle (Order says.x) → ⊥
  pub long : TooLong says.x c.horizon

-- read: none of these
pub record Readable (c : TextCall) : Type 0 where
  pub says : Says c
  pub chosen : c.resource < length says.x.capacities
  pub fits : ListsFit says.x c.lent
  pub acyclic : Cycle (Order says.x) → ⊥
  pub short : TooLong says.x c.horizon → ⊥
