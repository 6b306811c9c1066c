-- `admission::refusal` meets its contract: a refusal of the lists stands, and where there is none the log decides.
use mathlib.Core.Path.{sym, ◌∙◌}
use Rattle.std.proofs.lemmas.Result.{err_from_is_err_and}
use borrow.Author.Tests.{not-true, not-false}
use Rattle.lists.proofs.Tests.{or_first}
use Rattle.journal.specs.Journal.{is_whole}
use Rattle.promises.specs.Ask as ask
use Rattle.timetable.specs.Table.{refusal_of}
use Rattle.screen.proofs.Tests.{number_not_0}
use Rattle.admission.proofs.refusal.Goals as goal

pub returns-in_err-refusal : goal.returns-in_err-refusal
unfolding refusal_of ask.refusal_of
returns-in_err-refusal c =
    let p = err_from_is_err_and c.from_residual.result c.from_residual.ensures.1 in
    rw (p.1, p.2, ← c.in_err-refusal.ensures) (sym (or_first _ _ (number_not_0 _)))

pub returns-then-ragged : goal.returns-then-ragged
unfolding refusal_of ask.refusal_of
returns-then-ragged c = rw (← c.in_ok-refusal.ensures, not-true (is_whole c.args.log.now) (sym c.ragged.ensures ∙ c.if-ragged.true))

pub returns-else-ragged : goal.returns-else-ragged
unfolding refusal_of ask.refusal_of
returns-else-ragged c = rw (← c.in_ok-refusal.ensures, not-false (is_whole c.args.log.now) (sym c.ragged.ensures ∙ c.if-ragged.false))
