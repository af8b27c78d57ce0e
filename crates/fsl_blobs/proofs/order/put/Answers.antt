use Rattle.fsl_blobs.proofs.OrderSteps.{private_written, public_written}
use Rattle.fsl_blobs.proofs.order.put.Goals as goal

pub returns-in_ok-insert-clause-put : goal.returns-in_ok-insert-clause-put
returns-in_ok-insert-clause-put c = λ b n. private_written c.args.order.now c.insert.new.self c.args.place _ c.in_ok-insert.ensures.updates.0 c.args.private b n c.if-private.true

pub returns-in_ok-insert-2-clause-put : goal.returns-in_ok-insert-2-clause-put
returns-in_ok-insert-2-clause-put c = λ b n. public_written c.args.order.now c.insert-else-private.new.self c.args.place _ c.in_ok-insert-2.ensures.updates.0 c.args.private b n c.if-private.false
