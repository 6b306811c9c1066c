-- `noting::is_member` meets its contract: of a job of the list the definition is the four tests.
use Rattle.std.proofs.Common.{rules, ◌∙◌, sym}
use Rattle.narrowing.specs.Windows.{win}
use Rattle.timetable.specs.Table.{jobs_of}
use Rattle.searches.specs.Listed.{asked_of}
use Rattle.noting.proofs.Named.{member_at}
use Rattle.noting.proofs.is_member.Goals as goal

pub returns-then-list-k-ne0 : goal.returns-then-list-k-ne0
returns-then-list-k-ne0 c =
    let a = c.args in
    search rules ∙ sym (member_at (jobs_of (asked_of a.list)) (win a.list.est.now a.list.lct.now) a.j a.t a.k c.requires.0)

pub returns-else-list-k-ne0 : goal.returns-else-list-k-ne0
returns-else-list-k-ne0 c =
    let a = c.args in
    search rules ∙ sym (member_at (jobs_of (asked_of a.list)) (win a.list.est.now a.list.lct.now) a.j a.t a.k c.requires.0)
