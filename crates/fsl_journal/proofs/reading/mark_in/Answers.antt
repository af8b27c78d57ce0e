use Rattle.fsl_journal.proofs.reading.mark_in.Goals as goal

pub returns-in-Some : goal.returns-in-Some
returns-in-Some c = (c.in-Some.field-0-1.now, c.in-Some.ensures)
