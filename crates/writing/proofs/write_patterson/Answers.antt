-- `writing::write_patterson` meets its contract: each test in its order, and the text where none fails. What a test has shown is said once, at the
-- place behind it.
use borrow.Author.Rules.{rules}
use Prim.Native.Nat.{ℕ, ◌≤◌}
use mathlib.Core.Path.{◌≡◌, refl, sym}
use mathlib.Core.List.{List}
use lib.ListN.{length}
use Rattle.std.specs.Prelude.{Option, Some, None}
use Rattle.std.specs.Option.{ok_or}
use Rattle.std.proofs.lemmas.Result.{err_from_is_err_and}
use Rattle.answers.specs.declared.reasons.Refusal.{Refusal}
use Rattle.answers.specs.Said.{says_write}
use Rattle.joblist.specs.Limits.{most_jobs, two_lists, supply}
use Rattle.joblist.specs.GoodList.{GoodList, refusal}
use Rattle.joblist.proofs.Refusals.{good}
use Rattle.chains.specs.Paths.{Precedes, Cycle}
use Rattle.chains.specs.Listed.{Rising}
use Rattle.screen.proofs.Tests.{number_not_0}
use Rattle.projects.specs.Made.{made}
use Rattle.scribe.specs.Writing.{OutcomeSays}
use Rattle.exchange.specs.Write.{WriteCall, Writes, pairs_in, write_columns, alone}
use Rattle.exchange.proofs.WriteBack.{lists_refused, pairs_uneven, not_rising, cyclic, too_short, wrote}
use Rattle.writing.proofs.write_patterson.Goals as goal
use Rattle.writing.proofs.write_patterson.Goals.{Else-not-rising, In-Some, In_ok-refusal_of_two}

-- 1 to 3
good_lists : (e : In_ok-refusal_of_two) → let a = e.args in GoodList (length a.dur.now) (two_lists a.dur.now a.dem.now) (supply a.cap)
good_lists e = good _ _ _ (sym e.in_ok-refusal_of_two.ensures)

-- the pairs are those of the lists, which are of one length
same : (e : In-Some) → (e.in-Some.pairs.jobs.now ≡ e.args.jobs.now) × (e.in-Some.pairs.successors.now ≡ e.args.successors.now)
same e = rw e.in-Some.is at e.new.ensures

even : (e : In-Some) → length e.args.successors.now ≡ length e.args.jobs.now
even e = rw ((same e).0, (same e).1) at e.in-Some.pairs.even

rise : (e : Else-not-rising) → let p = e.in-Some.pairs in Rising (length e.args.dur.now) p.jobs.now p.successors.now
rise e = rw e.if-not-rising.false at e.rising.ensures

pub returns-in_err-refusal_of_two : goal.returns-in_err-refusal_of_two
returns-in_err-refusal_of_two c =
    let p = err_from_is_err_and c.from_residual.result c.from_residual.ensures.1 in
    rw (p.1, p.2) (lists_refused _ _ (number_not_0 _) c.in_err-refusal_of_two.ensures)

pub returns-in_default : goal.returns-in_default
returns-in_default c = pairs_uneven _ _ refl c.in_ok-refusal_of_two.ensures c.in_default.ensures

pub overflow_cast-n : goal.overflow_cast-n
overflow_cast-n c =
    let h : length c.args.dur.now ≤ most_jobs = (good_lists (goal.at.overflow_cast-n c).In_ok-refusal_of_two).few in
    search rules

pub returns-then-not-rising : goal.returns-then-not-rising
returns-then-not-rising c =
    let e = (goal.at.returns-then-not-rising c).In-Some in
    let f = rw c.if-not-rising.true at c.rising.ensures in
    not_rising _ _ refl c.in_ok-refusal_of_two.ensures (even e) (rw ((same e).0, (same e).1) at f)

pub has_cycle-requires : goal.has_cycle-requires
has_cycle-requires c = record { n_le_most_jobs = (good_lists (goal.at.has_cycle-requires c).In_ok-refusal_of_two).few; by_index = (rise (goal.at.has_cycle-requires c).Else-not-rising).range }

pub returns-then-has_cycle : goal.returns-then-has_cycle
returns-then-has_cycle c =
    let e = (goal.at.returns-then-has_cycle c).In-Some in
    let f = rw c.if-has_cycle.true at c.has_cycle.ensures in
    cyclic _ _ refl c.in_ok-refusal_of_two.ensures (even e) (rw ((same e).0, (same e).1) at (rise (goal.at.returns-then-has_cycle c).Else-not-rising)) (rw ((same e).0, (same e).1) at f)

pub invariant_of-project : goal.invariant_of-project
invariant_of-project c =
    let e = (goal.at.invariant_of-project c).In-Some in
    let g = good_lists (goal.at.invariant_of-project c).In_ok-refusal_of_two in
    record {
      ready = record { demands = g.sized.1.0; few = g.few; pairs = even e; rising = rw ((same e).0, (same e).1) at (rise (goal.at.invariant_of-project c).Else-not-rising) };
      words = ((λ i. (c.type_inv.dur i).fits), (λ i. (c.type_inv.dem i).fits));
    }

-- the text is written, or the buffer is too short
module _ (c : WriteCall) (tested : 0 ≡ refusal (length c.dur) (write_columns c) (alone c)) (even : length c.successors ≡ length c.jobs) (rising : Rising (length c.dur) c.jobs c.successors)
    (acyclic : Cycle (Precedes (pairs_in c)) → ⊥) (after : List ℕ) where
  left : (r : Option ℕ) → OutcomeSays (made c.cap c.dur c.dem (pairs_in c)) c.buffer after r → Writes c (record { says = says_write (ok_or r Refusal.Buffer); buffer = after })
  left (Some n) w = wrote c 0 refl tested even rising acyclic after n w.0 w.1 w.2
  left None w = too_short c 0 refl tested even rising acyclic after w.0 w.1

pub returns : goal.returns
returns c =
    let e = (goal.at.returns c).In-Some in
    let f = rw c.if-has_cycle.false at c.has_cycle.ensures in
    rw c.ok_or.ensures.value
    (left _ c.in_ok-refusal_of_two.ensures (even e) (rw ((same e).0, (same e).1) at (rise (goal.at.returns c).Else-not-rising)) (rw ((same e).0, (same e).1) at f) _ c.write.result c.write.ensures)
