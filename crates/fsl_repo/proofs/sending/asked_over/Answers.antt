use Rattle.std.proofs.Common.{sym, ◌∙◌, arith}
use Rattle.fsl_repo.specs.Sending.{due_of}
use Rattle.fsl_repo.proofs.Loops.{may_send, may_due, walk_end}
use Rattle.fsl_repo.proofs.Sendings.{map_filter_map}
use Rattle.fsl_repo.proofs.sending.asked_over.Goals as goal

pub returns : goal.returns
returns c =
    sym (walk_end (may_due c.args.blobs.now.records c.args.private) c.args.names.now c.loop-name.name-index _ _ (omega (arith, c.loop-name-test.false)) c.loop-name.invariant)
    ∙ sym (map_filter_map due_of (may_send c.args.blobs.now.records c.args.private) c.args.names.now)
