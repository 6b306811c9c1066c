-- What the work of the read head leaves, by how the defined run ends.
use Rattle.std.specs.Prelude.{ℕ, ◌≡◌, List, length}
use Rattle.narrowing.specs.Windows.{Win}
use Rattle.narrowing.specs.Run.{Out, settled, clash, short}
use Rattle.answers.specs.declared.Answer.{Answer}
use Rattle.promises.specs.Table.{ran}
use Rattle.heads.specs.Promise.{head_ask}

-- where the run ends so: after a clash the windows are not told; it is never short of moves
abbrev pub EndsIn : Out → Answer → Win → Type 0
EndsIn (settled U ms) a X = (a ≡ Answer.Settled (length ms)) × (X ≡ U)
EndsIn (clash j ms) a X = a ≡ Answer.Clash (length ms) j
EndsIn short a X = ⊥

-- the work's answer and windows are those of the defined run
abbrev pub Works : Win → List ℕ → Answer → Win → Type 0
Works W p a X = EndsIn (ran (head_ask W p)) a X
