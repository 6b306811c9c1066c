-- Whole calls of the writer on small lists: whatever meets its contract gives these answers and leaves these buffers. A text stands in the line above its
-- bytes.
use Prim.Native.Nat.{ℕ, zero, suc, ◌<◌}
use native.Mathlib.Omega.{arith}
use mathlib.Core.Path.{◌≡◌, refl}
use mathlib.Core.List.{List, [], ◌∷◌}
use mathlib.Core.Logic.{inl, inr}
use borrow.Author.Tests.{leb-true}
use Rattle.lists.specs.Tests.{every}
use Rattle.answers.specs.Said.{Word, said}
use Rattle.joblist.specs.GoodList.{GoodList, refusal}
use Rattle.joblist.proofs.Refusals.{good}
use Rattle.chains.specs.Passes.{acyclic?}
use Rattle.chains.specs.Paths.{Precedes, Cycle}
use Rattle.chains.specs.Listed.{paired, PairInRange, Rising}
use Rattle.chains.proofs.Cycles.{judged_acyclic}
use Rattle.chains.proofs.Listed.{paired_below}
use Rattle.projects.specs.Form.{project_text}
use Rattle.projects.specs.Made.{rows_from}
use Rattle.exchange.specs.Write.{WriteCall, WriteAfter, write_columns, alone, PairsTested, write_leaves, Writes}
use Rattle.exchange.proofs.WriteTests.{write_answered_one, behind_lists, by_lists}

-- two jobs on a capacity of 5, with such pairs and such a buffer
abbrev two : List ℕ → List ℕ → List ℕ → WriteCall
two js ss buffer = record { cap = 5; dur = 3 ∷ 4 ∷ []; dem = 1 ∷ 2 ∷ []; jobs = js; successors = ss; buffer = buffer }

two_good : (js ss buffer : List ℕ) → GoodList 2 (write_columns (two js ss buffer)) (alone (two js ss buffer))
unfolding refusal
two_good js ss buffer = good 2 (write_columns (two js ss buffer)) (alone (two js ss buffer)) refl

-- what the tests of the pairs say is the answer
by_pairs : (js ss buffer : List ℕ) (k : ℕ) → PairsTested (two js ss buffer) k → (a : WriteAfter) → Writes (two js ss buffer) a → a ≡ write_leaves (two js ss buffer) k
by_pairs js ss buffer k t a w =
    write_answered_one (two js ss buffer) a _ w.answered (record { number = k; refusal = behind_lists (two js ss buffer) k (two_good js ss buffer) t; leaves = refl })

-- job 0 before job 1
one_range : (i : ℕ) → i < 1 → PairInRange 2 (0 ∷ []) (1 ∷ []) i
one_range zero h = (leb-true _ _ refl, leb-true _ _ refl)
one_range (suc i) h = absurd (omega arith)

one_rising : Rising 2 (0 ∷ []) (1 ∷ [])
one_rising = record { range = one_range; order = λ i h. absurd (omega arith) }

one_calm : Cycle (Precedes (paired (0 ∷ []) (1 ∷ []))) → ⊥
unfolding acyclic? every
one_calm = (judged_acyclic (paired (0 ∷ []) (1 ∷ [])) 2 (paired_below 2 (0 ∷ []) (1 ∷ []) refl one_range)).passed refl

-- two bytes more than are needed: they stay: `2 1\n5\n3 1 1 2\n4 2 0\n`
pub one_written : (a : WriteAfter) → Writes (two (0 ∷ []) (1 ∷ []) (120 ∷ 120 ∷ 120 ∷ 120 ∷ 120 ∷ 120 ∷ 120 ∷ 120 ∷ 120 ∷ 120 ∷ 120 ∷ 120 ∷ 120 ∷ 120 ∷ 120 ∷ 120 ∷ 120 ∷ 120 ∷ 120 ∷ 120 ∷ 120 ∷ 120 ∷ [])) a → a ≡ record { says = said Word.written (20 ∷ []); buffer = 50 ∷ 32 ∷ 49 ∷ 10 ∷ 53 ∷ 10 ∷ 51 ∷ 32 ∷ 49 ∷ 32 ∷ 49 ∷ 32 ∷ 50 ∷ 10 ∷ 52 ∷ 32 ∷ 50 ∷ 32 ∷ 48 ∷ 10 ∷ 120 ∷ 120 ∷ [] }
unfolding project_text rows_from
one_written = by_pairs (0 ∷ []) (1 ∷ []) _ 0 (inr (refl, inr (one_rising, inr (one_calm, inr (leb-true _ _ refl, refl)))))

-- just enough bytes
pub one_exact : (a : WriteAfter) → Writes (two (0 ∷ []) (1 ∷ []) (120 ∷ 120 ∷ 120 ∷ 120 ∷ 120 ∷ 120 ∷ 120 ∷ 120 ∷ 120 ∷ 120 ∷ 120 ∷ 120 ∷ 120 ∷ 120 ∷ 120 ∷ 120 ∷ 120 ∷ 120 ∷ 120 ∷ 120 ∷ [])) a → a ≡ record { says = said Word.written (20 ∷ []); buffer = 50 ∷ 32 ∷ 49 ∷ 10 ∷ 53 ∷ 10 ∷ 51 ∷ 32 ∷ 49 ∷ 32 ∷ 49 ∷ 32 ∷ 50 ∷ 10 ∷ 52 ∷ 32 ∷ 50 ∷ 32 ∷ 48 ∷ 10 ∷ [] }
unfolding project_text rows_from
one_exact = by_pairs (0 ∷ []) (1 ∷ []) _ 0 (inr (refl, inr (one_rising, inr (one_calm, inr (leb-true _ _ refl, refl)))))

-- one byte too few: 36, and the buffer as it was
pub one_short : (a : WriteAfter) → Writes (two (0 ∷ []) (1 ∷ []) (120 ∷ 120 ∷ 120 ∷ 120 ∷ 120 ∷ 120 ∷ 120 ∷ 120 ∷ 120 ∷ 120 ∷ 120 ∷ 120 ∷ 120 ∷ 120 ∷ 120 ∷ 120 ∷ 120 ∷ 120 ∷ 120 ∷ [])) a → a ≡ record { says = said Word.refused (36 ∷ []); buffer = 120 ∷ 120 ∷ 120 ∷ 120 ∷ 120 ∷ 120 ∷ 120 ∷ 120 ∷ 120 ∷ 120 ∷ 120 ∷ 120 ∷ 120 ∷ 120 ∷ 120 ∷ 120 ∷ 120 ∷ 120 ∷ 120 ∷ [] }
unfolding project_text rows_from
one_short = by_pairs (0 ∷ []) (1 ∷ []) _ 36 (inr (refl, inr (one_rising, inr (one_calm, inl (leb-true _ _ refl, refl)))))

-- a pair twice is out of order: 32, before the buffer is looked at
pub pair_twice : (a : WriteAfter) → Writes (two (0 ∷ 0 ∷ []) (1 ∷ 1 ∷ []) (7 ∷ [])) a → a ≡ record { says = said Word.refused (32 ∷ []); buffer = 7 ∷ [] }
pair_twice = by_pairs (0 ∷ 0 ∷ []) (1 ∷ 1 ∷ []) _ 32 (inr (refl, inl (inr (0, leb-true _ _ refl, inr (refl, leb-true _ _ refl)), refl)))

-- job 2 of two
pub no_such_job : (a : WriteAfter) → Writes (two (0 ∷ []) (2 ∷ []) []) a → a ≡ record { says = said Word.refused (32 ∷ []); buffer = [] }
no_such_job = by_pairs (0 ∷ []) (2 ∷ []) _ 32 (inr (refl, inl (inl (0, leb-true _ _ refl, inr (leb-true _ _ refl)), refl)))

-- lists of pairs that differ in length: 1, though a pair is out of range
pub uneven_pairs : (a : WriteAfter) → Writes (two (9 ∷ []) [] []) a → a ≡ record { says = said Word.refused (1 ∷ []); buffer = [] }
uneven_pairs = by_pairs (9 ∷ []) [] _ 1 (inl ((λ e. omega arith), refl))

-- a job before itself: 33, before the buffer is looked at
self_range : (i : ℕ) → i < 1 → PairInRange 2 (0 ∷ []) (0 ∷ []) i
self_range zero h = (leb-true _ _ refl, leb-true _ _ refl)
self_range (suc i) h = absurd (omega arith)

pub before_itself : (a : WriteAfter) → Writes (two (0 ∷ []) (0 ∷ []) []) a → a ≡ record { says = said Word.refused (33 ∷ []); buffer = [] }
unfolding acyclic? every
before_itself =
    let cycle = (judged_acyclic (paired (0 ∷ []) (0 ∷ [])) 2 (paired_below 2 (0 ∷ []) (0 ∷ []) refl self_range)).failed refl in
    by_pairs (0 ∷ []) (0 ∷ []) _ 33 (inr (refl, inr (record { range = self_range; order = λ i h. absurd (omega arith) }, inl (cycle, refl))))

-- 1 before 0 and 0 before 1, a cycle, in falling order: 32
pub order_first : (a : WriteAfter) → Writes (two (1 ∷ 0 ∷ []) (0 ∷ 1 ∷ []) []) a → a ≡ record { says = said Word.refused (32 ∷ []); buffer = [] }
order_first = by_pairs (1 ∷ 0 ∷ []) (0 ∷ 1 ∷ []) _ 32 (inr (refl, inl (inr (0, leb-true _ _ refl, inl (leb-true _ _ refl)), refl)))

-- a demand above its limit: 3, though the pairs' lists differ in length
abbrev too_much : WriteCall
too_much = record { cap = 5; dur = 3 ∷ []; dem = 10001 ∷ []; jobs = 0 ∷ []; successors = []; buffer = 7 ∷ [] }

pub demand_first : (a : WriteAfter) → Writes too_much a → a ≡ record { says = said Word.refused (3 ∷ []); buffer = 7 ∷ [] }
unfolding refusal
demand_first a w = write_answered_one too_much a _ w.answered (record { number = 3; refusal = by_lists too_much 3 (λ e. omega arith) refl; leaves = refl })

-- a list of demands that is too long, and a duration above its limit: 1
abbrev uneven : WriteCall
uneven = record { cap = 5; dur = 1000001 ∷ []; dem = 1 ∷ 1 ∷ []; jobs = []; successors = []; buffer = 7 ∷ [] }

pub length_first : (a : WriteAfter) → Writes uneven a → a ≡ record { says = said Word.refused (1 ∷ []); buffer = 7 ∷ [] }
unfolding refusal
length_first a w = write_answered_one uneven a _ w.answered (record { number = 1; refusal = by_lists uneven 1 (λ e. omega arith) refl; leaves = refl })
