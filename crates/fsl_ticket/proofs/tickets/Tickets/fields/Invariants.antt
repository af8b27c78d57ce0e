use Rattle.fsl_ticket.proofs.tickets.Tickets.fields.Given as goal

abbrev pub ghosts-fields_counted : goal.ghosts-fields_counted
ghosts-fields_counted a = record { name = a.blank.name; parts = a.blank.parts }
