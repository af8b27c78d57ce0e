use Rattle.std.proofs.Common.{length}
use Rattle.fsl_record.proofs.GroupLists.{IsGroupRead}
use Rattle.fsl_record.proofs.groups.group.Given as goal

abbrev pub invariant-loop-rest : goal.invariant-loop-rest
invariant-loop-rest l = IsGroupRead l.version l.first l.bytes l.records.items l.rest

abbrev pub decreases-loop-rest : goal.decreases-loop-rest
decreases-loop-rest l = length l.rest
