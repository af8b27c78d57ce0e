use Rattle.fsl_repo.proofs.ReadItems.{first_read, one_taken}
use Rattle.fsl_repo.proofs.parsing.items_at.Goals as goal

pub loop-holding-preserved : goal.loop-holding-preserved
loop-holding-preserved c =
    one_taken c.args.held.now c.loop-holding.holding-index c.holding-item.result c.loop-holding.left.items c.taken_at-artifact.new.left.items c.loop-holding.items.items c.push.new.self.items c.taken_at-artifact.result
    c.loop-holding-test.true c.holding-item.is c.loop-holding.invariant c.taken_at-artifact.ensures.taken c.taken_at-artifact.ensures.rest c.in_ok-push.ensures.items

pub taken_at-artifact-requires : goal.taken_at-artifact-requires
taken_at-artifact-requires c =
    let read = first_read c.args.held.now c.loop-holding.holding-index c.holding-item.result c.loop-holding.left.items c.loop-holding.items.items c.loop-holding-test.true c.holding-item.is c.loop-holding.invariant in
    (read.0, read.1)
