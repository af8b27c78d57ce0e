use Rattle.std.proofs.Common.{Some, subst}
use Rattle.std.proofs.lemmas.Result.{err_from_is_err_and}
use Rattle.fsl_journal.proofs.Belonging.{same_moments}
use Rattle.fsl_repo.specs.Whole.{log_of}
use Rattle.fsl_words.specs.declared.Command.TheVariants as command_of
use Rattle.fossil.specs.Acts.{input_of, loaded_of}
use Rattle.fossil.specs.Taking.{IsChecked}
use Rattle.fossil.proofs.ActLemmas.{still, put_loads}
use Rattle.fossil.proofs.AppendLemmas.{memory_acted, idle_acted}
use Rattle.fossil.proofs.PutLemmas.{refused_appended}
use Rattle.fossil.proofs.commands.put.take_message.Goals as goal

pub returns-in_err-files : goal.returns-in_err-files
returns-in_err-files g c = λ disk input is opened.
    let p = err_from_is_err_and c.from_residual.result c.from_residual.ensures.1 in
    rw (p.1, p.2) (memory_acted (Some command_of.Put) put_loads (input_of input) (g.D.Disk.state disk) (g.D.Disk.state c.args.repo.now.disk) (loaded_of c.args.repo.now) opened is.3 (g.C.Clock.told c.args.clock.now))

pub returns-in-Files : goal.returns-in-Files
returns-in-Files g c = λ disk input is opened.
    c.take_files.ensures c.args.message (subst (IsChecked c.args.message) c.in-Files.is c.in_ok-files.ensures) disk input is opened

pub returns-in-Refused : goal.returns-in-Refused
returns-in-Refused g c = λ disk input is opened.
    let before = c.args.repo.now in
    idle_acted (Some command_of.Put) put_loads (input_of input) (still (g.C.Clock.told c.args.clock.now)) (g.D.Disk.state disk) (g.D.Disk.state before.disk) (loaded_of before) opened c.in-Refused.answer
    (refused_appended (input_of input) (g.C.Clock.told c.args.clock.now) opened.stands.0 (loaded_of before) c.in-Refused.answer c.args.message is (subst (IsChecked c.args.message) c.in-Refused.is c.in_ok-files.ensures))
    (same_moments (log_of before) (g.D.Disk.state before.disk) opened.belongs (λ model f left. g.met.D.Disk.only_now before.disk f model left))
    (λ held model told. g.met.D.Disk.reads_as_image disk held model told)
