-- `listed::ListedIterator::next` takes the first pair: there is one less to come, and the others can be read.
use Prim.Native.Nat.{ℕ, suc, ◌-◌}
use native.Mathlib.Omega.{arith}
use mathlib.Core.Path.{◌≡◌, ap}
use mathlib.Core.List.{List, [], ◌∷◌}
use lib.ListN.{length, take, drop}
use Rattle.std.proofs.lemmas.List.{take_all}
use Rattle.listed.specs.Listed.{OfJobs}
use Rattle.listed.proofs.ListedIterator.next.Goals as goal

others : (a : ℕ) (js ss : List ℕ) → length ss ≡ suc (length js) → OfJobs (a ∷ js) ss → OfJobs js (take (length ss - 1) (drop 1 ss))
others a js [] n s = absurd (omega (arith, n))
others a js (b ∷ ss) n s = rw (take_all (length (b ∷ ss) - 1) ss (omega arith)) (record { below = λ i h. s.below (suc i) (omega arith) })

pub returns-clause-goes : goal.returns-clause-goes
returns-clause-goes c =
    let e = c.in_ok-a.ensures.cases.0 in
    let n = c.args.self.now.even in
    let s = others _ _ _ (omega (arith, n, ap length e)) (rw e at c.requires) in
    record { on = λ _. (s, tt, omega (arith, ap length e)); keeps = s; rests = λ _. tt }
