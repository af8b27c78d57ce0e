use Rattle.std.proofs.Common.{◌∙◌}
use Rattle.fsl_uv.proofs.Exchanges.{answer-due}
use Rattle.fsl_uv.proofs.exchanging.answered.Goals as goal

pub returns-in-Ok : goal.returns-in-Ok
returns-in-Ok g c =
    answer-due c.args.here.now.seen.log.records c.args.here.now.seen.map c.args.there.now.seen.map c.bytes.result.now c.in-Ok.answer c.is_store.ensures.map (c.bytes.ensures ∙ c.in_ok-offer.ensures) c.in-Ok.ensures.ok
