-- `stated::stated_true` meets its contract: a member is in the list, so that it can be looked up.
use Prim.Native.Nat.{◌<◌, ◌≤◌}
use mathlib.Core.Path.{◌≡◌, refl, sym, ◌∙◌}
use mathlib.Core.Bool.{true, false}
use lib.ListN.{length}
use Rattle.narrowing.specs.Windows.{win}
use Rattle.joblist.specs.Limits.{most_time}
use Rattle.journal.specs.Journal.{set_of_record, job_of, time_of}
use Rattle.timetable.specs.Time.{sure}
use Rattle.codes.specs.Facts.{side}
use Rattle.codes.specs.Codes.{own_true}
use Rattle.stated.proofs.Steps.{stated_is}
use Rattle.stated.proofs.stated_true.Goals as goal
use Rattle.std.proofs.Common.{rules}

pub every_member-requires-clause-asked : goal.every_member-requires-clause-asked
every_member-requires-clause-asked c = λ k m.
    let p = c.requires in
    let b : k < length c.args.dur.now = p.1.members k (rw c.set_of.ensures at m) in
    let t : time_of c.args.words.now ≤ most_time = p.1.time in
    search rules

pub returns-then-own_true : goal.returns-then-own_true
returns-then-own_true c =
    let a = c.args in
    let W = win a.est.now a.lct.now in
    let own : own_true a.dur.now W (job_of a.words.now) (side a.words.now) (time_of a.words.now) ≡ true = cc in
    c.every_member.ensures (λ k. sure a.dur.now W k (time_of a.words.now)) (λ k b m p. search rules)
    ∙ sym (stated_is a.dur.now W a.words.now _ c.set_of.ensures ∙ rw own)

pub returns-else-own_true : goal.returns-else-own_true
returns-else-own_true c =
    let a = c.args in
    let W = win a.est.now a.lct.now in
    let own : own_true a.dur.now W (job_of a.words.now) (side a.words.now) (time_of a.words.now) ≡ false = cc in
    c.if-own_true.false ∙ sym (stated_is a.dur.now W a.words.now (set_of_record a.words.now) refl ∙ rw own)
