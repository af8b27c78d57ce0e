use Rattle.std.proofs.Common.{true}
use Rattle.fsl_record.proofs.Weaker.{in_version}
use Rattle.fsl_record.proofs.groups.read_one.Goals as goal

pub returns-then-first-clause-record : goal.returns-then-first-clause-record
returns-then-first-clause-record c = rw c.if-first.true (in_version c.read_first.result (λ rest. rest.now) c.args.version true c.args.bytes.now _ _ c.read_first.ensures.record)
