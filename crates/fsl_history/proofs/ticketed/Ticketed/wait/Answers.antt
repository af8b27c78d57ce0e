use Rattle.std.proofs.Common.{arith, subst, sym, ap, ◌∙◌}
use Rattle.fsl_history.specs.Plays.{Awaits, sat}
use Rattle.fsl_history.proofs.Keeps.{awaits}
use Rattle.fsl_history.proofs.Beside.{its_turn, not_yet}
use Rattle.fsl_history.proofs.ticketed.Ticketed.wait.Goals as goal

pub load-turn-requires : goal.load-turn-requires
load-turn-requires g c =
    let i = c.requires.waits in
    let v = c.loop-round.invariant in
    (v.0 ∙ c.requires.table, omega (arith, c.args.self.now.sized.0), awaits _ _ _ _ _ _ i.0 i.1 c.args.ticket (v.2 ∙ i.2))

pub loop-round-preserved : goal.loop-round-preserved
loop-round-preserved g c =
    let i = c.requires.waits in
    let v = c.loop-round.invariant in
    let told = subst (λ x. Awaits c.load-turn.result c.load-turn.new.seat.me x.0) (v.2 ∙ i.2) c.load-turn.ensures.2 in
    (c.load-turn.ensures.0 ∙ v.0, c.load-turn.ensures.1 ∙ v.1, told ∙ ap (λ st. sat i.0 i.1 st) (not_yet c.load-turn.result c.args.ticket c.if-turn-ticket.false) ∙ sym i.2)

pub returns-then-turn-ticket-clause-table : goal.returns-then-turn-ticket-clause-table
returns-then-turn-ticket-clause-table g c =
    let v = c.loop-round.invariant in
    (c.load-turn.ensures.0 ∙ v.0, c.load-turn.ensures.1 ∙ v.1)

pub returns-then-turn-ticket-clause-serves : goal.returns-then-turn-ticket-clause-serves
returns-then-turn-ticket-clause-serves g c = λ t left at.
    let v = c.loop-round.invariant in
    subst (λ x. Awaits c.load-turn.result c.load-turn.new.seat.me x.0) (v.2 ∙ at) c.load-turn.ensures.2 ∙ ap (λ st. sat t left st) (its_turn c.load-turn.result c.args.ticket c.if-turn-ticket.true)
