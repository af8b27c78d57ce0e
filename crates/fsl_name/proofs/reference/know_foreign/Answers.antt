use Rattle.std.proofs.Common.{rules}
use Rattle.fsl_name.proofs.ByteLists.{AreBytes-from_places}
use Rattle.fsl_name.proofs.reference.know_foreign.Goals as goal

pub returns : goal.returns
returns c = (search rules, AreBytes-from_places c.args.bytes (search rules))
