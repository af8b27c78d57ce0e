use Rattle.std.proofs.Common.{rules}
use Rattle.fsl_wire.proofs.writing.append_igot.Goals as goal

pub returns-then-private-clause-ok : goal.returns-then-private-clause-ok
returns-then-private-clause-ok c = search rules
