use Rattle.fsl_query.proofs.loaded.ticket_whole.Goals as goal

pub ticket_by-text-requires : goal.ticket_by-text-requires
ticket_by-text-requires c = c.in_ok-pages.ensures.facts c.args.fields.now
