use Prim.Native.Nat.{ℕ, ◌-◌}
use native.Mathlib.Omega.{arith}
use mathlib.Core.Path.{◌≡◌, sym, ap, ◌∙◌}
use mathlib.Core.List.{List}
use lib.ListN.{length}
use Rattle.members.specs.Members.{inserted, joined, AreWords}
use Rattle.journal.specs.Journal.{record_words, set_of_record}
use Rattle.journal.proofs.Records.{record_length}
use Rattle.marker.proofs.Back.{walk_first, walk_last, back_marked, back_passed, member_words, record_fits}
use Rattle.marker.proofs.walk_back.Goals as goal
use Rattle.marker.proofs.walk_back.Goals.{After-show_record-words}

pub loop-k-init : goal.loop-k-init
loop-k-init c =
    let a = c.args in
    c.put.ensures ∙ ap (λ (x : List ℕ). inserted x a.job) c.empty-set.ensures ∙ walk_first a.log.now a.count a.job c.requires.0 c.requires.1

-- ---- a record, once it is shown

abbrev Shown : Type 0
Shown = After-show_record-words

-- its place, and the set before it
abbrev place : Shown → ℕ
place d = d.loop-k.k - 1

abbrev words : Shown → List ℕ
words d = d.show_record-words.result.now

words_length : (d : Shown) → length (words d) ≡ record_words
words_length d =
    ap length d.show_record-words.ensures
    ∙ record_length d.args.log.now _ (omega (arith, d.requires.0, d.loop-k-test.true, d.loop-k.auto.k))

pub bounds-words-0 : goal.bounds-words-0
bounds-words-0 c = omega (arith, words_length (goal.at.bounds-words-0 c).After-show_record-words)

pub set_of-requires : goal.set_of-requires
set_of-requires c = words_length (goal.at.set_of-requires c).After-show_record-words

-- its moved job is marked, and its members are joined
pub loop-k-preserved-then-has : goal.loop-k-preserved-then-has
loop-k-preserved-then-has c =
    let d = (goal.at.loop-k-preserved-then-has c).After-show_record-words in
    let a = c.args in
    let l = c.loop-k in
    let e = c.show_record-words.ensures in
    let t = rw e at (sym c.has.ensures ∙ c.if-has.true) in
    let g : AreWords (set_of_record (words d)) = member_words (words d) (rw e (record_fits a.log.now (place d) (λ q. (c.type_inv.log q).fits))) in
    let j : c.join.new.set ≡ joined l.set (set_of_record (words d)) = c.join.ensures ∙ ap (joined l.set) c.set_of.ensures in
    (rw e at j) ∙ back_marked a.log.now a.count a.job c.requires.0 c.requires.1 (place d) l.k (omega arith) l.auto.k l.set l.invariant t (rw e at g)

-- it is not, and the record is passed over
pub loop-k-preserved : goal.loop-k-preserved
loop-k-preserved c =
    let d = (goal.at.loop-k-preserved c).After-show_record-words in
    let a = c.args in
    let l = c.loop-k in
    let t = rw c.show_record-words.ensures at (sym c.has.ensures ∙ c.if-has.false) in
    back_passed a.log.now a.count a.job c.requires.0 c.requires.1 (place d) l.k (omega arith) l.auto.k l.set l.invariant t

pub returns : goal.returns
returns c =
    let a = c.args in
    c.loop-k.invariant ∙ walk_last a.log.now a.count a.job c.requires.0 c.requires.1 c.loop-k.k (omega (arith, c.loop-k-test.false))
