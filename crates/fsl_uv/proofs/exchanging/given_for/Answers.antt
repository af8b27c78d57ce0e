use Rattle.fsl_uv.proofs.Exchanges.{give-due}
use Rattle.fsl_uv.proofs.exchanging.given_for.Goals as goal

pub returns-in-Ok : goal.returns-in-Ok
returns-in-Ok g c = λ cards is. give-due c.args.here.now.seen.map c.args.answer.now c.in-Ok.files c.in-Ok.ensures.ok cards is
