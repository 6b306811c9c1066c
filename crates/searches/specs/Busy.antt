-- Crowded times of a job by the load of all jobs: where the job's own sure part, from s up to f, holds a time, the load has its demand r in it already.
use Rattle.std.specs.Prelude.{ℕ, ◌+◌, ◌≤◌, ◌<◌, not}
use Rattle.lists.specs.Tests.{between, only}
use Rattle.lists.specs.Extremes.{LastWith, FirstWith}
use Rattle.profile.specs.Keeps.{Keeps}
use Rattle.searches.specs.declared.load.Load.{Load}

-- with the job's demand the load g exceeds the capacity at t
abbrev pub Busy : (ℕ → ℕ) → ℕ → ℕ → ℕ → ℕ → ℕ → Type 0
Busy g cap r s f t = cap < g t + only (not (between s f t)) r

-- the load has the demand in it wherever the own sure part holds a time
abbrev pub DemandIn : (ℕ → ℕ) → ℕ → ℕ → ℕ → Type 0
DemandIn g r s f = (t : ℕ) → s ≤ t → t < f → r ≤ g t

-- of every such load that the lists keep, x tells the last busy time from a up to b, if any
abbrev pub LastBusy : Load → ℕ → ℕ → ℕ → ℕ → ℕ → ℕ → ℕ → Type 0
LastBusy load cap r s f a b x = (g : ℕ → ℕ) → Keeps g load.ts.now load.ld.now load.kept → DemandIn g r s f → LastWith (Busy g cap r s f) a b x

-- x tells the first
abbrev pub FirstBusy : Load → ℕ → ℕ → ℕ → ℕ → ℕ → ℕ → ℕ → Type 0
FirstBusy load cap r s f a b x = (g : ℕ → ℕ) → Keeps g load.ts.now load.ld.now load.kept → DemandIn g r s f → FirstWith (Busy g cap r s f) a b x
