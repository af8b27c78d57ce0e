use Rattle.std.proofs.Common.{arith, subst, IfSome}
use Rattle.fsl_history.specs.Plays.{Gives}
use Rattle.fsl_history.proofs.Keeps.{givings}
use Rattle.fsl_history.proofs.ticketed.Ticketed.give.Goals as goal

pub load-requires : goal.load-requires
load-requires g c =
    let i = c.requires.stepped in
    let did = i.5 in
    (c.requires.table, omega (arith, c.args.self.now.sized.0), givings _ _ _ _ _ c.args.chair.now.me i.0 i.1 c.args.ticket did.0 did.1 _ i.2 i.3 i.4 did.2 did.3)

pub returns-clause-ahead : goal.returns-clause-ahead
returns-clause-ahead g c = λ t left e a is did.
    subst (λ x. Gives (e, a) c.load.new.seat.me x.0) did.3 (subst (λ y. IfSome y (λ z. Gives z c.load.new.seat.me c.args.chair.now.me.0)) is c.load.ensures.2)
