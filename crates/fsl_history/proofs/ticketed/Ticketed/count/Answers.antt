use Rattle.std.proofs.Common.{rules, arith, subst}
use Rattle.fsl_history.specs.Plays.{Looks}
use Rattle.fsl_history.proofs.Keeps.{lookings}
use Rattle.fsl_history.proofs.ticketed.Ticketed.count.Goals as goal

pub load-requires : goal.load-requires
load-requires g c =
    let i = c.requires.idle in
    let me = c.args.self.now in
    (c.requires.table, omega (arith, me.sized.0), lookings _ _ _ _ _ c.args.chair.now.me i.0 i.1 g.B.Chronicle.first (λ f is. search rules) i.2)

pub returns-clause-shown : goal.returns-clause-shown
returns-clause-shown g c = λ t left at. subst (λ x. Looks g.M.Machine.may_step g.B.Chronicle.first c.load.result c.load.new.seat.me x.0) at c.load.ensures.2
