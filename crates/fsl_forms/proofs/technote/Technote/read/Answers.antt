use Rattle.fsl_forms.proofs.technote.Technote.read.Goals as goal

pub returns-in-Ok : goal.returns-in-Ok
returns-in-Ok c = rw (← c.items.ensures) c.in-Ok.ensures

pub returns-in-Err-Form : goal.returns-in-Err-Form
returns-in-Err-Form c = rw (← c.items.ensures) (c.in-Err-Form.ensures c.in-Err-Form.field-0-is)
