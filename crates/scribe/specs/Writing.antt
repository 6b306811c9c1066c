-- What the writer asks for and what it says (document 02, Item 13). A dry run leaves the buffer as it is and only counts, so that a caller sees whether
-- there is room before a byte is written.
use Rattle.std.specs.Prelude.{ℕ, suc, ◌≤◌, ◌<◌, ◌≡◌, Bool, cond, List, ◌++◌, length, drop, Option, Some, None}
use Rattle.std.proofs.Common.{ap, inl, inr, arith}
use Rattle.std.proofs.Math.Bridge.{le_prop}
use Rattle.std.proofs.Props.{props}
use Rattle.lists.specs.Lists.{◌!◌}
use Rattle.joblist.specs.Limits.{most_jobs}
use Rattle.chains.specs.Listed.{InOrder, Rising}
use Rattle.projects.specs.Projects.{Project}
use Rattle.projects.specs.Form.{project_text}

-- what the lists are that a project is written from: their lengths, and the pairs in their order
pub record Ready (durs dems js ss : List ℕ) : Type 0 where
  pub demands : length dems ≡ length durs
  pub few : length durs ≤ most_jobs
  pub pairs : length ss ≡ length js
  pub rising : Rising (length durs) js ss

-- of two pairs one comes before the other in one way alone; here, since a source file's `ghost use` takes from its own crate's specs alone
pub in_order_prop : (js ss : List ℕ) (i : ℕ) → IsProp (InOrder js ss i)
in_order_prop js ss i (inl a) (inl b) = ap inl (le_prop a b)
in_order_prop js ss i (inl a) (inr b) = absurd (omega (arith, b.0))
in_order_prop js ss i (inr a) (inl b) = absurd (omega (arith, a.0))
in_order_prop js ss i (inr a) (inr b) = ap inr (both a b)
  where
    both : IsProp ((js ! i ≡ js ! suc i) × (ss ! i < ss ! suc i))
    both = hlevel props

-- the whole text stands at the front of the buffer, the bytes beyond stay, and r is how many they are
pub record Ran (dry : Bool) (x : Project) (buffer after : List ℕ) (r : ℕ) : Type 0 where
  pub count : r ≡ length (project_text x)
  pub bytes : after ≡ cond dry buffer (project_text x ++ drop (length (project_text x)) buffer)

-- the text written where there is room for it; else the buffer is too short, and is as it was
abbrev pub OutcomeSays : Project → List ℕ → List ℕ → Option ℕ → Type 0
OutcomeSays x buffer after (Some n) = (length (project_text x) ≤ length buffer) × (n ≡ length (project_text x)) × (after ≡ project_text x ++ drop (length (project_text x)) buffer)
OutcomeSays x buffer after None = (length buffer < length (project_text x)) × (after ≡ buffer)
