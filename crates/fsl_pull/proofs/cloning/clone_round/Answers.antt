use Rattle.std.proofs.Common.{◌≡◌, ℕ, List, Option, None, Err, refl, subst}
use Rattle.fsl_wire.specs.declared.WireCard.{WireCard}
use Rattle.fsl_pull.specs.CloneTurns.{clone_bytes, IsCloneTaken}
use Rattle.fsl_pull.proofs.CloneTaken.{clone_counts}
use Rattle.fsl_pull.proofs.DialCounts.{counts_on}
use Rattle.fsl_pull.proofs.CloneAnswers.{unless_all}
use Rattle.fsl_pull.proofs.CloneTurnLemmas.{taken_turn, unreplied_turn}
use Rattle.fsl_pull.proofs.Undamaged.{unreplied_undamaged}
use Rattle.fsl_pull.proofs.cloning.clone_round.Goals as goal

pub returns-in-Ok-clause-round : goal.returns-in-Ok-clause-round
returns-in-Ok-clause-round g c =
    let before = g.D.Disk.state c.args.repo.now.disk in
    let after = g.D.Disk.state c.take_reply.new.repo.disk in
    let old = c.args.repo.now.seen in
    let new = c.take_reply.new.repo.seen in
    taken_turn c.args.login.now c.args.from (g.N.Link.state c.args.dial.now) (g.N.Link.state c.reply_from.new.dial) before after old new (c.take_reply.new.repo.disk ≡ c.args.repo.now.disk)
    c.in-Ok.reply c.take_reply.result c.in-Ok.ensures.asked
    (subst (λ (cs : List WireCard). IsCloneTaken c.args.from cs before after old new (c.take_reply.new.repo.disk ≡ c.args.repo.now.disk) c.take_reply.result) c.cards.ensures c.take_reply.ensures.step)

pub returns-in-Err-clause-round : goal.returns-in-Err-clause-round
returns-in-Err-clause-round g c =
    let before = g.D.Disk.state c.args.repo.now.disk in
    let old = c.args.repo.now.seen in
    unreplied_turn c.args.login.now c.args.from (g.N.Link.state c.args.dial.now) (g.N.Link.state c.reply_from.new.dial) before before old old (c.args.repo.now.disk ≡ c.args.repo.now.disk) c.in-Err.fault c.in-Err.ensures.unasked refl refl

pub returns-in-Err-clause-runs : goal.returns-in-Err-clause-runs
returns-in-Err-clause-runs g c = unless_all {A = Option ℕ} (c.args.repo.now.seen.state.stopped ≡ None) (Err c.in-Err.fault) c.requires.runs

pub returns-in-Err-clause-steady : goal.returns-in-Err-clause-steady
returns-in-Err-clause-steady g c = unless_all {A = Option ℕ} (c.args.repo.now.seen.state.faults ≡ c.args.repo.now.seen.state.faults) (Err c.in-Err.fault) refl

pub returns-in-Ok-clause-counts : goal.returns-in-Ok-clause-counts
returns-in-Ok-clause-counts g c =
    clone_counts c.args.from c.cards.result.now (g.D.Disk.state c.args.repo.now.disk) (g.D.Disk.state c.take_reply.new.repo.disk) c.args.repo.now.seen c.take_reply.new.repo.seen (c.take_reply.new.repo.disk ≡ c.args.repo.now.disk) c.take_reply.result
    (g.N.Link.state c.args.dial.now) (g.N.Link.state c.reply_from.new.dial) c.take_reply.ensures.step c.in-Ok.ensures.counts

pub returns-in-Err-clause-counts : goal.returns-in-Err-clause-counts
returns-in-Err-clause-counts g c =
    counts_on (List WireCard) (Option ℕ) (g.N.Link.state c.args.dial.now) (g.N.Link.state c.args.dial.now) (g.N.Link.state c.reply_from.new.dial) c.in-Err.fault refl c.in-Err.ensures.counts

pub returns-in-Err-clause-undamaged : goal.returns-in-Err-clause-undamaged
returns-in-Err-clause-undamaged g c =
    unreplied_undamaged (g.N.Link.state c.args.dial.now) (g.N.Link.state c.reply_from.new.dial) (clone_bytes c.args.login.now c.args.from) c.in-Err.fault c.in-Err.ensures.unasked
