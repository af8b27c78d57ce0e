use Rattle.fsl_order.proofs.Maps.{value_written}
use Rattle.fsl_forum.proofs.chains.put.Goals as goal

pub returns-in-Ok-clause-value : goal.returns-in-Ok-clause-value
returns-in-Ok-clause-value c = value_written c.args.map.now.entries c.insert.new.self.entries c.args.name c.args.value c.in-Ok.ensures.updates.0
