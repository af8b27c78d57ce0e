use Rattle.std.proofs.Common.{rules}
use Rattle.fsl_turn.proofs.locked.Under.turn.Goals as goal

pub invariant_of-mine : goal.invariant_of-mine
invariant_of-mine g c = search rules

pub returns-clause-share : goal.returns-clause-share
returns-clause-share g c = search rules
