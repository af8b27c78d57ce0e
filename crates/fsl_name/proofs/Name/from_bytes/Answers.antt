use Rattle.std.proofs.Common.{rules}
use Rattle.fsl_name.proofs.ByteLists.{IsName-from_places}
use Rattle.fsl_name.proofs.Name.from_bytes.Goals as goal

pub invariant_of-result : goal.invariant_of-result
invariant_of-result c = IsName-from_places c.args.bytes (search rules) (search rules)

pub returns-clause-named : goal.returns-clause-named
returns-clause-named c = IsName-from_places c.args.bytes (search rules) (search rules)
