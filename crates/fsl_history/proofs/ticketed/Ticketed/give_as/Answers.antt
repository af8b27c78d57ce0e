use Rattle.fsl_history.proofs.ticketed.Ticketed.give_as.Goals as goal

pub give-requires-clause-stepped : goal.give-requires-clause-stepped
give-requires-clause-stepped g c = let i = c.requires.stepped in (i.0, i.1, c.args.event.now, c.args.answer.now, c.requires.call, i.2)

pub returns-clause-ahead : goal.returns-clause-ahead
returns-clause-ahead g c = λ t left. c.give.ensures.ahead t left c.args.event.now c.args.answer.now c.requires.call
