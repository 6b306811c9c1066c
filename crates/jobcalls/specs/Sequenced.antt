-- The call of the read head made over packed lists (docs/ANSWERS.md, 'The lines of `probe`'): earliest starts, latest ends and durations are the first three.
use Rattle.std.specs.Prelude.{ℕ, ◌≡◌, List, take}
use Rattle.answers.specs.Said.{Said}
use Rattle.desk.specs.Lists.{win}
use Rattle.desk.specs.Sequencing.{left, Sequences}
use Rattle.sayings.specs.declared.Saying.{Saying}
use Rattle.sayings.specs.Sayings.{Tells}
use Rattle.packed.specs.Packed.{list_of, put_at}
use Rattle.requests.specs.Sizes.{job_entries}

-- a list of jobs, as long as a line may have one
abbrev pub jobs_in : List ℕ → ℕ → List ℕ
jobs_in words k = take job_entries (list_of words k)

-- what it says is the call's answer, and the windows that the call leaves stand where those submitted stood
pub record Sequenced (words : List ℕ) (r : Saying) (after : List ℕ) : Type 0 where
  pub says : Said
  pub est : List ℕ
  pub lct : List ℕ
  pub told : Tells r says
  pub sequences : Sequences (win (jobs_in words 0) (jobs_in words 1)) (list_of words 2) (left says (win est lct))
  pub put : after ≡ put_at (put_at words 0 est) 1 lct
