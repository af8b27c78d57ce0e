use Rattle.fsl_table.proofs.Outcomes.{on_ok_map}
use Rattle.fsl_tags.proofs.settle.settle.Goals as goal

pub returns-clause-stay : goal.returns-clause-stay
returns-clause-stay g c = on_ok_map c.settle_one-2.result (λ stay q known. stay q (c.loop-at.invariant.stay q known)) c.settle_one-2.ensures.stay
