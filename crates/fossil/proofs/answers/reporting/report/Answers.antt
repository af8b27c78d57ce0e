use Rattle.std.proofs.Common.{Some}
use Rattle.fsl_words.specs.declared.Command.TheVariants as command_of
use Rattle.fossil.proofs.ActLemmas.{ask_loads, not_loaded_acted}
use Rattle.fossil.proofs.RepoLemmas.{file_opened, file_unopened}
use Rattle.fossil.proofs.answers.reporting.report.Goals as goal

pub returns-in-Ok : goal.returns-in-Ok
returns-in-Ok g c = λ input clock.
    let file = g.D.Disk.state c.args.disk.now in
    let mid = g.D.Disk.state c.open_for.new.disk in
    c.report_on.ensures c.args.disk.now input clock (file_opened file mid c.in-Ok.opened c.in-Ok.ensures.opened c.in-Ok.ensures.file)

pub returns-in-Err : goal.returns-in-Err
returns-in-Err g c = λ input clock.
    let file = g.D.Disk.state c.args.disk.now in
    let left = g.D.Disk.state c.open_for.new.disk in
    not_loaded_acted (Some (command_of.Ask c.args.question.now)) (ask_loads c.args.question.now) input clock file left
    (λ held model told. g.met.D.Disk.reads_as_image c.open_for.new.disk held model told) c.in-Err.fault c.not_loaded.result (file_unopened file left c.in-Err.fault c.in-Err.ensures.fault c.in-Err.ensures.file)
    c.not_loaded.ensures
