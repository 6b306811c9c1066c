-- `precedence::longest_chains` meets its contract: what the settled values say, of steps and then of durations. Each settling that came to rest is said
-- once, at the place behind it, and every return behind that place hands it over.
use Prim.Native.Nat.{ℕ}
use lib.ListN.{length}
use mathlib.Core.Path.{◌≡◌, refl, ap}
use mathlib.Core.Bool.{true, false}
use mathlib.Core.List.{List}
use mathlib.Core.Logic.{inl, inr}
use native.Mathlib.Omega.{arith}
use Rattle.joblist.specs.Limits.{most_jobs}
use Rattle.lists.proofs.Lists.{replicate_low}
use Rattle.chains.specs.Paths.{Pair, Precedes, Below, Cycle}
use Rattle.texts.specs.Tokens.{Token}
use Rattle.texts.specs.Readings.{good}
use Rattle.passes.specs.Rounds.{AtRest}
use Rattle.passes.proofs.Steps.{says_33, no_33}
use Rattle.precedence.specs.Pairs.{coming}
use Rattle.precedence.proofs.Orders.{head_34, tail_34, head_longest, over_34, no_34, tail_longest}
use Rattle.precedence.proofs.longest_chains.Goals as goal
use Rattle.precedence.proofs.longest_chains.Goals.{Else-not-settle, Else-not-settle-2, Else-not-settle-3}

-- steps: there is no cycle
acyclic : (e : Else-not-settle) (ps : List Pair) (end : List Token) → coming e.args.pairs ≡ good ps end → Below e.args.pairs.n (Precedes ps) → Cycle (Precedes ps) → ⊥
acyclic e ps end is range =
    let few = e.args.pairs.few in
    let t = rw e.if-not-settle.false at e.settle.ensures.0 in
    no_33 _ _ few ps end is range _ (t _ few)

abbrev heads : Else-not-settle-2 → List ℕ
heads e = e.settle-2.new.v

heads-rest : (e : Else-not-settle-2) → AtRest (coming e.args.pairs) e.args.pairs.n e.args.dur.now false e.args.h (heads e)
heads-rest e = let t = rw e.if-not-settle-2.false at e.settle-2.ensures.0 in t _ e.args.pairs.few

abbrev tails : Else-not-settle-3 → List ℕ
tails e = e.settle-3.new.v

tails-rest : (e : Else-not-settle-3) → AtRest (coming e.args.pairs) e.args.pairs.n e.args.dur.now true e.args.h (tails e)
tails-rest e = let t = rw e.if-not-settle-3.false at e.settle-3.ensures.0 in t _ e.args.pairs.few

-- ---- the goals

pub settle-requires : goal.settle-requires
settle-requires c =
    record { can = tt; start = (refl, omega (arith, c.args.pairs.few)); by_index = λ j. replicate_low most_jobs _ _ j (omega arith) }

pub returns-then-not-settle : goal.returns-then-not-settle
returns-then-not-settle c =
    let s = c.requires.n_le_most_jobs in
    let t = rw c.if-not-settle.true at c.settle.ensures.0 in
    ((λ ps end is range. inl (refl, says_33 _ _ c.args.pairs.few ps end is range (t _ c.args.pairs.few))), ap length s.0, ap length s.1)

pub returns-then-not-settle-2 : goal.returns-then-not-settle-2
returns-then-not-settle-2 c =
    let s = c.requires.n_le_most_jobs in
    let t = rw c.if-not-settle-2.true at c.settle-2.ensures.0 in
    ((λ ps end is range. inr (refl, acyclic (goal.at.returns-then-not-settle-2 c).Else-not-settle ps end is range, head_34 _ _ ps end is range _ _ (t _ c.args.pairs.few))), c.settle-2.ensures.1, ap length s.1)

pub returns-then-not-settle-3 : goal.returns-then-not-settle-3
returns-then-not-settle-3 c =
    let t = rw c.if-not-settle-3.true at c.settle-3.ensures.0 in
    ((λ ps end is range. inr (refl, acyclic (goal.at.returns-then-not-settle-3 c).Else-not-settle ps end is range, tail_34 _ _ ps end is range _ _ _ (heads-rest (goal.at.returns-then-not-settle-3 c).Else-not-settle-2) (t _ c.args.pairs.few))), c.settle-2.ensures.1, c.settle-3.ensures.1)

pub exceeds-requires : goal.exceeds-requires
exceeds-requires c =
    let q = c.requires in
    record { n_le_most_jobs = c.args.pairs.few; by_index = (λ j. omega (arith, (heads-rest (goal.at.exceeds-requires c).Else-not-settle-2).low j, q.n_le_most_jobs.2), q.by_index) }

pub returns-then-exceeds : goal.returns-then-exceeds
returns-then-exceeds c =
    let x = rw c.if-exceeds.true at c.exceeds.ensures in
    ((λ ps end is range. inr (refl, acyclic (goal.at.returns-then-exceeds c).Else-not-settle ps end is range, over_34 _ _ ps end is range _ _ _ (heads-rest (goal.at.returns-then-exceeds c).Else-not-settle-2) x)), c.settle-2.ensures.1, c.settle-3.ensures.1)

pub returns : goal.returns
returns c =
    let x = rw c.if-exceeds.false at c.exceeds.ensures in (
      (λ ps end is range. record {
        acyclic = acyclic (goal.at.returns c).Else-not-settle ps end is range;
        short = no_34 _ _ ps end is range _ _ _ (heads-rest (goal.at.returns c).Else-not-settle-2) x;
        before = head_longest _ _ ps end is range _ _ _ (heads-rest (goal.at.returns c).Else-not-settle-2);
        after = tail_longest _ _ ps end is range _ _ _ (tails-rest (goal.at.returns c).Else-not-settle-3);
        low = λ j. ((heads-rest (goal.at.returns c).Else-not-settle-2).low j, (tails-rest (goal.at.returns c).Else-not-settle-3).low j);
      }),
      c.settle-2.ensures.1,
      c.settle-3.ensures.1,
    )
