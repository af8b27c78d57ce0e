use Rattle.std.proofs.Common.{arith, subst}
use Rattle.fsl_history.specs.Plays.{Takes}
use Rattle.fsl_history.proofs.Keeps.{takings}
use Rattle.fsl_history.proofs.ticketed.Ticketed.take.Goals as goal

pub load-requires : goal.load-requires
load-requires g c =
    let i = c.requires.serves in
    let sized = c.args.self.now.sized in
    (c.requires.table, omega (arith, sized.0), takings _ _ _ _ _ c.args.chair.now.me i.0 i.1 c.args.ticket sized.1 i.2)

pub returns-clause-out : goal.returns-clause-out
returns-clause-out g c = λ t left at. subst (λ x. Takes c.load.new.seat.me x.0) at c.load.ensures.2
