use Rattle.std.proofs.Common.{◌∙◌, ◌-◌}
use Rattle.fsl_history.proofs.ticketed.Ticketed.step.Goals as goal

pub wait-requires-clause-table : goal.wait-requires-clause-table
wait-requires-clause-table g c = c.draw-ticket.ensures.table.0 ∙ c.requires.table

pub wait-requires-clause-waits : goal.wait-requires-clause-waits
wait-requires-clause-waits g c = let i = c.requires.idle in (i.0, i.1 - 1, c.draw-ticket.ensures.waits i.0 i.1 i.3)

pub take-requires-clause-table : goal.take-requires-clause-table
take-requires-clause-table g c = c.wait.ensures.table.0 ∙ c.draw-ticket.ensures.table.0 ∙ c.requires.table

pub take-requires-clause-serves : goal.take-requires-clause-serves
take-requires-clause-serves g c = let i = c.requires.idle in (i.0, i.1 - 1, c.wait.ensures.serves i.0 (i.1 - 1) (c.draw-ticket.ensures.waits i.0 i.1 i.3))

pub work-answer-requires-clause-table : goal.work-answer-requires-clause-table
work-answer-requires-clause-table g c = c.take.ensures.table.0 ∙ c.wait.ensures.table.0 ∙ c.draw-ticket.ensures.table.0 ∙ c.requires.table

pub work-answer-requires-clause-out : goal.work-answer-requires-clause-out
work-answer-requires-clause-out g c =
    let i = c.requires.idle in
    (i.0, i.1 - 1, c.take.ensures.out i.0 (i.1 - 1) (c.wait.ensures.serves i.0 (i.1 - 1) (c.draw-ticket.ensures.waits i.0 i.1 i.3)))

pub give_after-requires-clause-table : goal.give_after-requires-clause-table
give_after-requires-clause-table g c = c.work-answer.ensures.table.0 ∙ c.take.ensures.table.0 ∙ c.wait.ensures.table.0 ∙ c.draw-ticket.ensures.table.0 ∙ c.requires.table

pub give_after-requires-clause-stepped : goal.give_after-requires-clause-stepped
give_after-requires-clause-stepped g c =
    let i = c.requires.idle in
    let out = c.take.ensures.out i.0 (i.1 - 1) (c.wait.ensures.serves i.0 (i.1 - 1) (c.draw-ticket.ensures.waits i.0 i.1 i.3)) in
    (i.0, i.1 - 1, c.work-answer.ensures.stepped i.0 (i.1 - 1) out)

pub release-requires-clause-table : goal.release-requires-clause-table
release-requires-clause-table g c = c.give_after.ensures.table.0 ∙ c.work-answer.ensures.table.0 ∙ c.take.ensures.table.0 ∙ c.wait.ensures.table.0 ∙ c.draw-ticket.ensures.table.0 ∙ c.requires.table

pub release-requires-clause-ahead : goal.release-requires-clause-ahead
release-requires-clause-ahead g c =
    let i = c.requires.idle in
    let out = c.take.ensures.out i.0 (i.1 - 1) (c.wait.ensures.serves i.0 (i.1 - 1) (c.draw-ticket.ensures.waits i.0 i.1 i.3)) in
    (i.0, i.1 - 1, c.args.event.now, c.work-answer.result, c.give_after.ensures.ahead i.0 (i.1 - 1) (c.work-answer.ensures.stepped i.0 (i.1 - 1) out))

pub returns-clause-table : goal.returns-clause-table
returns-clause-table g c = (
  c.release.ensures.table.0 ∙ c.give_after.ensures.table.0 ∙ c.work-answer.ensures.table.0 ∙ c.take.ensures.table.0 ∙ c.wait.ensures.table.0 ∙ c.draw-ticket.ensures.table.0,
  c.release.ensures.table.1 ∙ c.give_after.ensures.table.1 ∙ c.work-answer.ensures.table.1 ∙ c.take.ensures.table.1 ∙ c.wait.ensures.table.1 ∙ c.draw-ticket.ensures.table.1,
)

pub returns-clause-called : goal.returns-clause-called
returns-clause-called g c = λ t left at.
    let out = c.take.ensures.out t (left - 1) (c.wait.ensures.serves t (left - 1) (c.draw-ticket.ensures.waits t left at)) in
    c.release.ensures.called t (left - 1) c.args.event.now c.work-answer.result (c.give_after.ensures.ahead t (left - 1) (c.work-answer.ensures.stepped t (left - 1) out))
