use Rattle.fsl_repo.proofs.ReadItems.{read_more}
use Rattle.fsl_repo.proofs.parsing.artifacts_of.Goals as goal

pub loop-entry-preserved : goal.loop-entry-preserved
loop-entry-preserved c =
    read_more c.args.entries.now c.loop-entry.entry-index c.entry-item.result c.loop-entry.list.items c.push.new.self.items c.in_ok-artifact_of.field-0 c.loop-entry-test.true c.entry-item.is
    c.loop-entry.invariant c.in_ok-artifact_of.ensures c.in_ok-push.ensures.items
