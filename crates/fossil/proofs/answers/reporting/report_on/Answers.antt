use Rattle.fossil.specs.Acts.{loaded_file}
use Rattle.fossil.proofs.QuestionLemmas.{found_acted}
use Rattle.fossil.proofs.answers.reporting.report_on.Goals as goal

pub returns : goal.returns
returns g c = λ disk input clock opened.
    found_acted c.args.question.now input clock (g.D.Disk.state disk) (g.D.Disk.state c.args.disk.now) (g.D.Disk.state c.report_from-found.new.disk)
    (λ model f left. g.met.D.Disk.only_now c.args.disk.now f model left) (loaded_file c.args.opened) opened c.report_from-found.ensures.quiet c.report_from-found.result c.answer_of.result
    c.report_from-found.ensures.means c.answer_of.ensures
