use Rattle.fsl_table.proofs.Noting.{has_noted}
use Rattle.fsl_table.proofs.names.note.Goals as goal

pub returns-in-Ok : goal.returns-in-Ok
returns-in-Ok c = record { noted = λ q. has_noted c.args.names.now.keys c.insert.new.self.keys c.args.name q (c.in-Ok.ensures.updates.0 q) }
