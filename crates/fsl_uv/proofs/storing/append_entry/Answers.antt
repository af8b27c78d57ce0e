use Rattle.fsl_uv.proofs.Logs.{appended}
use Rattle.fsl_uv.proofs.storing.append_entry.Goals as goal

pub returns-in-Ok-clause-ok : goal.returns-in-Ok-clause-ok
returns-in-Ok-clause-ok c =
    appended c.args.journal.now c.append-appended.new.self c.in_ok-blob.blob c.in-Ok.field-0 c.args.entry.now c.in-Ok.ensures.ok c.in-Ok.ensures.at c.in_ok-blob.ensures.is
