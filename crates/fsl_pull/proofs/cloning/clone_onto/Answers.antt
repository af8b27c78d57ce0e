use Rattle.std.proofs.Common.{◌≡◌, List, Err, refl, ap, subst, ◌∙◌}
use Rattle.fsl_disk.proofs.Moments.{keeps_on}
use Rattle.fsl_wire.specs.declared.WireCard.{WireCard}
use Rattle.fsl_repo.specs.Machine.{State}
use Rattle.fsl_repo.specs.Whole.{is_modelled}
use Rattle.fsl_pull.specs.declared.Pulled.{Pulled}
use Rattle.fsl_pull.specs.Clones.{project_in}
use Rattle.fsl_pull.specs.CloneTurns.{clone_bytes, IsBegunBy, IsUnbegun, IsClosedOn}
use Rattle.fsl_pull.proofs.DialCounts.{counts_on}
use Rattle.fsl_pull.proofs.CloneAnswers.{unless_on, unless_all}
use Rattle.fsl_pull.proofs.CloneWhole.{unreplied, unbegun, begun_answer, unbegun_same, unbegun_counts, counts_since}
use Rattle.fsl_pull.proofs.Undamaged.{unreplied_undamaged, unbegun_undamaged}
use Rattle.fsl_pull.proofs.cloning.clone_onto.Goals as goal

pub returns-in-Err-clause-clones : goal.returns-in-Err-clause-clones
returns-in-Err-clause-clones g c = unreplied g.D.Disk.state c.args.server c.args.fields.now c.args.login.now (g.N.Link.state c.args.dial.now) c.args.disk c.requires.empty (g.N.Link.state c.reply_from.new.dial) c.args.disk c.in-Err.fault refl c.reply_from.ensures.later c.in-Err.ensures.unasked

pub returns-in-Err-clause-steady : goal.returns-in-Err-clause-steady
returns-in-Err-clause-steady g c = unless_all {A = Pulled} ((g.D.Disk.state c.args.disk).faults ≡ (g.D.Disk.state c.args.disk).faults) (Err c.in-Err.fault) refl

pub returns-clause-clones : goal.returns-clause-clones
returns-clause-clones g c =
    let asked = c.in-Ok.ensures.asked in
    unbegun g.D.Disk.state c.args.server c.args.fields.now c.args.login.now (g.N.Link.state c.args.dial.now) c.args.disk c.requires.empty (g.N.Link.state c.reply_from.new.dial) asked.0 c.in-Ok.first asked.1 asked.2 c.in-Err-begun.disk c.in-Err-begun.fault
    c.in-Err-begun.ensures.keeps (λ project is. c.in-Err-begun.ensures.moments project (ap project_in c.cards.ensures ∙ is))
    (subst (λ (cs : List WireCard). IsUnbegun g.D.Disk.state c.args.server c.args.fields.now cs c.args.disk c.in-Err-begun.disk c.in-Err-begun.fault) c.cards.ensures c.in-Err-begun.ensures.fault)

pub returns-clause-steady : goal.returns-clause-steady
returns-clause-steady g c = unbegun_same g.D.Disk.state c.args.server c.args.fields.now c.cards.result.now c.args.disk c.in-Err-begun.disk c.in-Err-begun.fault c.in-Err-begun.ensures.fault

pub closed_rounds-requires : goal.closed_rounds-requires
closed_rounds-requires g c = record { runs = ap (λ (t : State). t.stopped) (c.in-Ok-begun.ensures.begun.2).state }

pub returns-in-Ok-begun-clause-clones : goal.returns-in-Ok-begun-clause-clones
returns-in-Ok-begun-clause-clones g c =
    let asked = c.in-Ok.ensures.asked in
    let begun =
    subst (λ (cs : List WireCard). IsBegunBy c.args.server c.args.fields.now cs (g.D.Disk.state c.args.disk).faults (is_modelled (g.D.Disk.state c.args.disk)) c.in-Ok-begun.repo.seen) c.cards.ensures c.in-Ok-begun.ensures.begun in
    begun_answer g.D.Disk.state c.args.server c.args.fields.now c.args.login.now (g.N.Link.state c.args.dial.now) c.args.disk c.requires.empty (g.N.Link.state c.reply_from.new.dial) asked.0 c.in-Ok.first asked.1 asked.2
    c.in-Ok-begun.repo.disk c.closed_rounds.result.0 c.in-Ok-begun.repo.seen begun.0 begun.1 begun.2
    (λ project is. c.in-Ok-begun.ensures.moments project (ap project_in c.cards.ensures ∙ is)) c.closed_rounds.ensures.stands c.in-Ok-begun.ensures.keeps c.closed_rounds.ensures.keeps
    (g.N.Link.state c.closed_rounds.new.dial) c.closed_rounds.result.1 c.reply_from.ensures.later
    (subst (λ (cs : List WireCard). IsClosedOn c.args.login.now cs (g.N.Link.state c.reply_from.new.dial) (g.N.Link.state c.closed_rounds.new.dial) (g.D.Disk.state c.in-Ok-begun.repo.disk) (g.D.Disk.state c.closed_rounds.result.0) c.in-Ok-begun.repo.seen c.closed_rounds.result.1) c.cards-in-Ok-begun.ensures c.closed_rounds.ensures.clones)

pub returns-in-Ok-begun-clause-steady : goal.returns-in-Ok-begun-clause-steady
returns-in-Ok-begun-clause-steady g c =
    unless_on ((g.D.Disk.state c.closed_rounds.result.0).faults ≡ c.in-Ok-begun.repo.seen.state.faults) ((g.D.Disk.state c.closed_rounds.result.0).faults ≡ (g.D.Disk.state c.args.disk).faults) c.closed_rounds.result.1
    (λ same. same ∙ ap (λ (t : State). t.faults) (c.in-Ok-begun.ensures.begun.2).state) c.closed_rounds.ensures.steady

pub returns-in-Ok-begun-clause-keeps : goal.returns-in-Ok-begun-clause-keeps
returns-in-Ok-begun-clause-keeps g c = keeps_on (g.D.Disk.state c.args.disk) (g.D.Disk.state c.in-Ok-begun.repo.disk) (g.D.Disk.state c.closed_rounds.result.0) c.in-Ok-begun.ensures.keeps c.closed_rounds.ensures.keeps

pub returns-in-Err-clause-counts : goal.returns-in-Err-clause-counts
returns-in-Err-clause-counts g c = counts_on (List WireCard) Pulled (g.N.Link.state c.args.dial.now) (g.N.Link.state c.args.dial.now) (g.N.Link.state c.reply_from.new.dial) c.in-Err.fault refl c.in-Err.ensures.counts

pub returns-clause-counts : goal.returns-clause-counts
returns-clause-counts g c =
    unbegun_counts g.D.Disk.state c.args.server c.args.fields.now c.cards.result.now c.args.disk c.in-Err-begun.disk c.in-Err-begun.fault (g.N.Link.state c.args.dial.now) (g.N.Link.state c.reply_from.new.dial) c.in-Err-begun.ensures.fault c.in-Ok.ensures.counts

pub returns-in-Ok-begun-clause-counts : goal.returns-in-Ok-begun-clause-counts
returns-in-Ok-begun-clause-counts g c =
    counts_since (g.N.Link.state c.args.dial.now) (g.N.Link.state c.reply_from.new.dial) (g.N.Link.state c.closed_rounds.new.dial) c.closed_rounds.result.1 c.in-Ok.ensures.counts c.closed_rounds.ensures.counts

pub returns-in-Err-clause-undamaged : goal.returns-in-Err-clause-undamaged
returns-in-Err-clause-undamaged g c =
    unreplied_undamaged (g.N.Link.state c.args.dial.now) (g.N.Link.state c.reply_from.new.dial) (clone_bytes c.args.login.now 1) c.in-Err.fault c.in-Err.ensures.unasked

pub returns-clause-undamaged : goal.returns-clause-undamaged
returns-clause-undamaged g c =
    unbegun_undamaged g.D.Disk.state c.args.server c.args.fields.now c.cards.result.now c.args.disk c.in-Err-begun.disk c.in-Err-begun.fault c.in-Err-begun.ensures.fault
