-- Where it is enough to look for crowded times (document 02, Item 5: "where a sure part begins or ends, and at the ends of the stretch searched"). On side
-- 0 these are the last times, e + p - 1, of the job's own stretch and of the others' sure parts, on side 1 the first ones, l - p.
use Rattle.std.specs.Prelude.{ℕ, suc, ◌+◌, ◌≤◌, ◌≡◌, List, ◌⊎◌}
use Rattle.lists.specs.Lists.{◌!◌}
use Rattle.narrowing.specs.Windows.{Win, Side, early, late}
use Rattle.timetable.specs.Time.{Jobs, Early, Late}
use Rattle.timetable.specs.Search.{Member}

-- side 0: t is the last time before e + p; side 1: t is l - p
abbrev pub Edge : Side → List ℕ → Win → ℕ → ℕ → Type 0
Edge early p W k t = suc t ≡ W.e ! k + p ! k
Edge late p W k t = W.l ! k ≡ t + p ! k

-- another job with r ≥ 1 whose sure part holds t, and ends there on side 0, begins there on side 1
pub record PartEdge (J : Jobs) (W : Win) (j : ℕ) (s : Side) (t : ℕ) : Type 0 where
  pub other : ℕ
  pub member : Member J W j t other
  pub edge : Edge s J.p W other t

-- the last time (side 0) or the first (side 1) of the stretch searched for job j, or of another job's sure part
abbrev pub Looked : Jobs → Win → ℕ → Side → ℕ → Type 0
Looked J W j s t = Edge s J.p W j t ⊎ PartEdge J W j s t

-- the time at which a rule moves job j's side, as document 01 orders the work: side 0 at the greatest such t, side 1 at the least
abbrev pub MovesAt : Jobs → Win → ℕ → Side → ℕ → Type 0
MovesAt J W j early t = Early J W j t × ((u : ℕ) → Early J W j u → u ≤ t)
MovesAt J W j late t = Late J W j t × ((u : ℕ) → Late J W j u → t ≤ u)
