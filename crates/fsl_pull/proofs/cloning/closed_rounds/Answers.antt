use Rattle.std.proofs.Common.{◌≡◌, sym, ap, subst, ◌∙◌}
use Rattle.fsl_disk.specs.Disk.{Keeps}
use Rattle.fsl_pull.specs.CloneTurns.{IsClosedOn}
use Rattle.fsl_pull.proofs.CloneAnswers.{unless_on}
use Rattle.fsl_pull.proofs.CloneWhole.{closed}
use Rattle.fsl_pull.proofs.cloning.closed_rounds.Goals as goal

pub returns-clause-clones : goal.returns-clause-clones
returns-clause-clones g c =
    subst (λ d. IsClosedOn c.args.login.now c.args.first.now (g.N.Link.state c.args.dial.now) (g.N.Link.state c.rounds-answer.new.dial) (g.D.Disk.state c.args.repo.disk) (g.D.Disk.state d) c.args.repo.seen c.rounds-answer.result) (sym c.close.ensures)
    (closed c.args.login.now c.args.first.now (g.N.Link.state c.args.dial.now) (g.N.Link.state c.rounds-answer.new.dial) (g.D.Disk.state c.args.repo.disk) (g.D.Disk.state c.rounds-answer.new.repo.disk) c.args.repo.seen c.rounds-answer.new.repo c.rounds-answer.result
    c.is_whole-2.ensures c.rounds-answer.ensures.runs c.rounds-answer.ensures.clones)

pub returns-clause-stands : goal.returns-clause-stands
returns-clause-stands g c = λ f model left. c.is_whole.ensures.exact c.requires.runs model f left

pub returns-clause-steady : goal.returns-clause-steady
returns-clause-steady g c =
    unless_on (c.rounds-answer.new.repo.seen.state.faults ≡ c.args.repo.seen.state.faults) ((g.D.Disk.state c.close.result).faults ≡ c.args.repo.seen.state.faults) c.rounds-answer.result
    (λ same. ap (λ d. (g.D.Disk.state d).faults) c.close.ensures ∙ sym c.is_whole-2.ensures.faults ∙ same) c.rounds-answer.ensures.steady

pub returns-clause-keeps : goal.returns-clause-keeps
returns-clause-keeps g c = subst (λ d. Keeps (g.D.Disk.state c.args.repo.disk) (g.D.Disk.state d)) (sym c.close.ensures) c.rounds-answer.ensures.keeps
