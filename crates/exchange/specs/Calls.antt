-- A call of a reader of project texts (document 02, Items 1 and 13), whatever the layout, and what it leaves. A call holds what its layout makes of the text: a
-- project, or the first refusal that the text meets.
use Rattle.std.specs.Prelude.{ℕ, List}
use Rattle.answers.specs.Said.{Said}
use Rattle.chains.specs.Paths.{Precedes, weight}
use Rattle.texts.specs.Readings.{Read}
use Rattle.projects.specs.Projects.{Project, pairs_of, durations}

-- the lent lists: earliest starts, latest ends, durations, demands; jobs and successors of the pairs
pub record Lent : Type 0 where
  pub est : List ℕ
  pub lct : List ℕ
  pub dur : List ℕ
  pub dem : List ℕ
  pub jobs : List ℕ
  pub successors : List ℕ

-- the text by its layout, the resource from 0, the horizon, and the lists
pub record TextCall : Type 0 where
  pub text : Read Project
  pub resource : ℕ
  pub horizon : ℕ
  pub lent : Lent

-- the answer, and the lists
pub record TextAfter : Type 0 where
  pub says : Said
  pub lent : Lent

-- the project's precedences
abbrev pub Order : Project → ℕ → ℕ → Type 0
Order x = Precedes (pairs_of x)

-- its jobs' durations
abbrev pub duration_of : Project → ℕ → ℕ
duration_of x = weight (durations x.rows)
