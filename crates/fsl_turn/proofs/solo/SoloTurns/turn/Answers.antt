use Rattle.std.proofs.Common.{rules}
use Rattle.fsl_turn.proofs.solo.SoloTurns.turn.Goals as goal

pub returns-clause-told : goal.returns-clause-told
returns-clause-told g c = search rules

pub returns-clause-grown : goal.returns-clause-grown
returns-clause-grown g c = search rules

pub returns-clause-items : goal.returns-clause-items
returns-clause-items g c = search rules
