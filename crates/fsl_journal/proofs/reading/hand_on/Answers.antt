use Rattle.std.proofs.Common.{◌∙◌, ◌+◌, length, ap}
use Rattle.fsl_journal.proofs.Standing.{length-places}
use Rattle.fsl_journal.proofs.reading.hand_on.Goals as goal

pub take-requires-clause-as_many : goal.take-requires-clause-as_many
take-requires-clause-as_many g c =
    ap length c.in-Ok.ensures.answer ∙ length-places (c.args.found.now.place + 9) c.items.result.now ∙ ap length c.items.ensures
