use Rattle.fossil.proofs.commands.sync.sync_open.Goals as goal

pub returns-clause-made : goal.returns-clause-made
returns-clause-made g c = record { result = c.make-made.result; made = c.make-made.ensures.made; counted = c.make-made.ensures.counts; says = c.sync_due.ensures }
