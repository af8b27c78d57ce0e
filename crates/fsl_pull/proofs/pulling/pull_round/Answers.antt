use Rattle.std.proofs.Common.{◌≡◌, List, refl, subst, ◌∙◌}
use Rattle.fsl_wire.specs.declared.WireCard.{WireCard}
use Rattle.fsl_pull.specs.Pulls.{missing_fault}
use Rattle.fsl_pull.specs.PullTurns.{IsTaken}
use Rattle.fsl_pull.proofs.DialCounts.{taken_counts}
use Rattle.fsl_pull.proofs.TurnLemmas.{taken_turn, unread_turn}
use Rattle.fsl_pull.proofs.pulling.pull_round.Goals as goal

pub returns-in-Ok-Ok-clause-round : goal.returns-in-Ok-Ok-clause-round
returns-in-Ok-Ok-clause-round g c =
    let before = g.D.Disk.state c.args.repo.now.disk in
    let after = g.D.Disk.state c.take_reply.new.repo.disk in
    let old = c.args.repo.now.seen in
    let new = c.take_reply.new.repo.seen in
    taken_turn c.args.login.now c.args.asked.now (g.N.Link.state c.args.dial.now) (g.N.Link.state c.send_and_read.new.dial) before after old new (c.take_reply.new.repo.disk ≡ c.args.repo.now.disk) c.bytes.result.now c.config.result.now c.config.ensures (c.bytes.ensures ∙ c.in-Ok.ensures)
    c.in-Ok-Ok.reply c.take_reply.result (rw c.in-Ok-Ok.field-0-is at c.in-Ok-Ok.ensures.asked)
    (subst (λ (cs : List WireCard). IsTaken missing_fault c.args.asked.now cs before after old new (c.take_reply.new.repo.disk ≡ c.args.repo.now.disk) c.take_reply.result) c.cards.ensures c.take_reply.ensures.step)

pub returns-in-Ok-Err-clause-round : goal.returns-in-Ok-Err-clause-round
returns-in-Ok-Err-clause-round g c =
    let before = g.D.Disk.state c.args.repo.now.disk in
    let old = c.args.repo.now.seen in
    unread_turn c.args.login.now c.args.asked.now (g.N.Link.state c.args.dial.now) (g.N.Link.state c.send_and_read.new.dial) before before old old (c.args.repo.now.disk ≡ c.args.repo.now.disk) c.bytes.result.now c.config.result.now c.config.ensures (c.bytes.ensures ∙ c.in-Ok.ensures)
    c.in-Ok-Err.why (rw c.in-Ok-Err.field-0-is at c.in-Ok-Err.ensures.asked) refl refl

pub returns-in-Ok-Ok-clause-counts : goal.returns-in-Ok-Ok-clause-counts
returns-in-Ok-Ok-clause-counts g c =
    taken_counts missing_fault c.args.asked.now c.cards.result.now (g.D.Disk.state c.args.repo.now.disk) (g.D.Disk.state c.take_reply.new.repo.disk) c.args.repo.now.seen c.take_reply.new.repo.seen (c.take_reply.new.repo.disk ≡ c.args.repo.now.disk) c.take_reply.result
    (g.N.Link.state c.args.dial.now) (g.N.Link.state c.send_and_read.new.dial) c.take_reply.ensures.step c.in-Ok-Ok.ensures.counts
