use Rattle.fsl_blobs.proofs.OrderSteps.{private_written, public_written}
use Rattle.fsl_blobs.proofs.order.take.Goals as goal

pub returns-then-private : goal.returns-then-private
returns-then-private c = λ b n. private_written c.args.order.now c.remove.new.self c.args.place _ c.remove.ensures.updates.0 c.args.private b n c.if-private.true

pub returns-else-private : goal.returns-else-private
returns-else-private c = λ b n. public_written c.args.order.now c.remove-else-private.new.self c.args.place _ c.remove-else-private.ensures.updates.0 c.args.private b n c.if-private.false
