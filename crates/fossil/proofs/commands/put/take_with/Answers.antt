use Rattle.std.proofs.Common.{◌≡◌, false, Some, Ok, Err, sym, subst}
use Rattle.std.proofs.lemmas.Result.{err_from_is_err_and}
use Rattle.fsl_disk.specs.Disk.{DiskState}
use Rattle.fsl_journal.proofs.Belonging.{same_moments}
use Rattle.fsl_repo.specs.Whole.{log_of}
use Rattle.fsl_words.specs.declared.Command.TheVariants as command_of
use Rattle.fossil.specs.declared.answers.fault.Fault.TheVariants as fault_is
use Rattle.fossil.specs.Acts.{input_of, clock_of, loaded_of, IsOpened, Acts}
use Rattle.fossil.specs.Taking.{HaveArrived}
use Rattle.fossil.proofs.ActLemmas.{put_loads}
use Rattle.fossil.proofs.AppendLemmas.{memory_timed, failed_acted, appended_acted, idle_acted}
use Rattle.fossil.proofs.PutLemmas.{form_timed, files_appended, refused_file_appended}
use Rattle.fossil.proofs.ShunLemmas.{was_due, commit_rose, commit_settles}
use Rattle.fossil.proofs.commands.put.take_with.Goals as goal

pub returns-in_err-text : goal.returns-in_err-text
returns-in_err-text g c = λ message clock list taken disk input is opened.
    let p = err_from_is_err_and c.from_residual.result c.from_residual.ensures.1 in
    let same : g.D.Disk.state c.arrive.new.repo.disk ≡ g.D.Disk.state c.args.repo.now.disk = λ i. g.D.Disk.state (c.arrive.ensures.disk i) in
    rw (p.1, p.2)
    (subst (λ (s : DiskState). Acts command_of.Put input clock (g.D.Disk.state disk, s) (Err fault_is.Memory)) (sym same)
    (memory_timed (Some command_of.Put) put_loads (input_of input) (g.D.Disk.state disk) (g.D.Disk.state c.args.repo.now.disk) (loaded_of c.args.repo.now) opened is.3 (clock_of clock) message c.args.receipt.now.moment is.0
    (form_timed (clock_of clock) c.args.receipt.now false message opened.stands.0 c.args.repo.now.seen.state.records c.args.files taken opened.stands.2 is.2 list)))

pub returns-in-Refused : goal.returns-in-Refused
returns-in-Refused g c = λ message clock list taken disk input is opened.
    let before = c.args.repo.now in
    let same : g.D.Disk.state c.arrive.new.repo.disk ≡ g.D.Disk.state before.disk = λ i. g.D.Disk.state (c.arrive.ensures.disk i) in
    let refused = subst (HaveArrived c.args.receipt.now c.args.files before.seen.state c.arrive.new.repo.seen.state) c.in-Refused.is c.in_ok-text.ensures.arrived in
    subst (λ (s : DiskState). Acts command_of.Put input clock (g.D.Disk.state disk, s) (Ok c.in-Refused.answer)) (sym same)
    (idle_acted (Some command_of.Put) put_loads (input_of input) (clock_of clock) (g.D.Disk.state disk) (g.D.Disk.state before.disk) (loaded_of before) opened c.in-Refused.answer
    (refused_file_appended (input_of input) (clock_of clock) c.args.receipt.now opened.stands.0 (loaded_of before) c.in-Refused.answer message c.args.files taken is list refused)
    (same_moments (log_of before) (g.D.Disk.state before.disk) opened.belongs (λ model f left. g.met.D.Disk.only_now before.disk f model left))
    (λ held model told. g.met.D.Disk.reads_as_image disk held model told))

pub returns-in-Err : goal.returns-in-Err
returns-in-Err g c = λ message clock list taken disk input is opened.
    let before = c.args.repo.now in
    let mid = c.arrive.new.repo in
    let left = c.commit-committed.new.self in
    let same : g.D.Disk.state mid.disk ≡ g.D.Disk.state before.disk = λ i. g.D.Disk.state (c.arrive.ensures.disk i) in
    let opened_mid = subst (λ (s : DiskState). IsOpened (g.D.Disk.state disk) s (loaded_of before)) (sym same) opened in
    let arrived = subst (HaveArrived c.args.receipt.now c.args.files before.seen.state mid.seen.state) c.in-Taken.is c.in_ok-text.ensures.arrived in
    failed_acted (Some command_of.Put) put_loads (input_of input) (g.D.Disk.state disk) (g.D.Disk.state mid.disk) (loaded_of before) opened_mid
    (clock_of clock) (loaded_of mid) (record { status = 0; text = c.in-Taken.text }) (files_appended (input_of input) (clock_of clock) c.args.receipt.now opened_mid.stands.0 message before mid c.args.files c.in-Taken.text taken is list arrived)
    (g.D.Disk.state left.disk) c.commit-committed.ensures.keeps c.commit-committed.ensures.any_moment
    (λ held model told. g.met.D.Disk.reads_as_image disk held model told) (λ held model told. g.met.D.Disk.reads_as_image left.disk held model told)
    (commit_rose mid left (g.D.Disk.state mid.disk) (g.D.Disk.state left.disk) c.is_whole.ensures c.is_whole-2.ensures arrived.runs _ c.in-Err.ensures.step)
    (was_due mid.seen.state _ c.commit-committed.result c.in-Err.is arrived.runs c.is_whole.ensures.seen.committed c.commit-committed.ensures.nothing)

pub returns-in-Ok : goal.returns-in-Ok
returns-in-Ok g c = λ message clock list taken disk input is opened.
    let before = c.args.repo.now in
    let mid = c.arrive.new.repo in
    let left = c.commit-committed.new.self in
    let same : g.D.Disk.state mid.disk ≡ g.D.Disk.state before.disk = λ i. g.D.Disk.state (c.arrive.ensures.disk i) in
    let opened_mid = subst (λ (s : DiskState). IsOpened (g.D.Disk.state disk) s (loaded_of before)) (sym same) opened in
    let arrived = subst (HaveArrived c.args.receipt.now c.args.files before.seen.state mid.seen.state) c.in-Taken.is c.in_ok-text.ensures.arrived in
    appended_acted (Some command_of.Put) put_loads (input_of input) (g.D.Disk.state disk) (g.D.Disk.state mid.disk) (loaded_of before) opened_mid
    (clock_of clock) (loaded_of mid) (record { status = 0; text = c.in-Taken.text }) (files_appended (input_of input) (clock_of clock) c.args.receipt.now opened_mid.stands.0 message before mid c.args.files c.in-Taken.text taken is list arrived)
    (g.D.Disk.state left.disk) c.commit-committed.ensures.keeps c.commit-committed.ensures.any_moment
    (λ held model told. g.met.D.Disk.reads_as_image disk held model told)
    (commit_settles mid left (g.D.Disk.state mid.disk) (g.D.Disk.state left.disk) c.is_whole.ensures c.is_whole-2.ensures arrived.runs _ c.in-Ok.ensures.step)
    c.in-Ok.ensures.durable
