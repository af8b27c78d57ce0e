use Rattle.std.proofs.Common.{rules}
use Rattle.fsl_wire.proofs.drafts.settle_card.Goals as goal

pub returns-in-Login-clause-card : goal.returns-in-Login-clause-card
returns-in-Login-clause-card c = search rules
