-- `listed::Listed::has_cycle` meets its contract: rounds of steps come to rest where there is no cycle, and else some chain has more steps than there are jobs.
use Prim.Native.Nat.{ℕ, ◌≤◌, ◌<◌}
use native.Mathlib.Omega.{arith}
use mathlib.Core.Path.{◌≡◌, refl}
use mathlib.Core.Bool.{Bool, true, false, not}
use mathlib.Core.List.{List}
use lib.ListN.{length, replicate}
use Rattle.lists.proofs.Lists.{replicate_low}
use Rattle.joblist.specs.Limits.{most_jobs}
use Rattle.chains.specs.Listed.{PairInRange}
use Rattle.chains.proofs.Listed.{paired_below}
use Rattle.passes.specs.Rounds.{SettleSays}
use Rattle.passes.proofs.Steps.{says_33, no_33}
use Rattle.listed.specs.Listed.{read_pairs, CycleSays}
use Rattle.listed.proofs.Listed.has_cycle.Goals as goal

module _ (n : ℕ) (js ss v : List ℕ) (few : n ≤ most_jobs) (e : length ss ≡ length js) (f : (i : ℕ) → i < length js → PairInRange n js ss i) where
  settled : (r : Bool) → SettleSays (read_pairs js ss) n (replicate most_jobs 1) false n v r → CycleSays js ss (not r)
  settled true t = no_33 _ n few _ _ refl (paired_below n js ss e f) v t
  settled false t = says_33 _ n few _ _ refl (paired_below n js ss e f) t

pub settle-requires-clause-by_index : goal.settle-requires-clause-by_index
settle-requires-clause-by_index c = λ j. replicate_low most_jobs _ _ j (omega arith)

pub returns : goal.returns
returns c =
    let few = c.requires.n_le_most_jobs in
    settled c.args.n c.args.self.now.jobs.now c.args.self.now.successors.now _ few c.args.self.now.even c.requires.by_index _ (c.settle.ensures.0 c.args.n few)
