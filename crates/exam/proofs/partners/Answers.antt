-- `exam::partners` meets its contract: the moved job takes part, and every member passes the test of `partner_at`.
use mathlib.Core.Path.{refl, sym, ◌∙◌}
use Rattle.journal.specs.Journal.{set_of_record, job_of}
use Rattle.exam.proofs.Steps.{partner_at, partners_is}
use Rattle.exam.proofs.partners.Goals as goal
use Rattle.std.proofs.Common.{rules}

pub returns-then-takes_part : goal.returns-then-takes_part
returns-then-takes_part c =
    let a = c.args in
    c.every_member.ensures (partner_at a.dur.now a.dem.now (job_of a.words.now)) (λ k b m p. search rules)
    ∙ sym (partners_is a.dur.now a.dem.now a.words.now _ c.set_of.ensures ∙ rw (sym c.takes_part.ensures ∙ c.if-takes_part.true))

pub returns-else-takes_part : goal.returns-else-takes_part
returns-else-takes_part c =
    let a = c.args in
    c.if-takes_part.false
    ∙ sym (partners_is a.dur.now a.dem.now a.words.now (set_of_record a.words.now) refl ∙ rw (sym c.takes_part.ensures ∙ c.if-takes_part.false))
