use Rattle.std.proofs.Common.{◌≡◌, Some, Ok, Err, refl, sym, subst}
use Rattle.std.proofs.lemmas.Result.{err_from_is_err_and}
use Rattle.fsl_disk.specs.Disk.{DiskState}
use Rattle.fsl_words.specs.declared.Command.TheVariants as command_of
use Rattle.fossil.specs.declared.answers.fault.Fault.TheVariants as fault_is
use Rattle.fsl_journal.proofs.Belonging.{same_moments}
use Rattle.fsl_repo.specs.Whole.{log_of}
use Rattle.fsl_repo.specs.declared.UnshunFault.TheVariants as unshun_fault
use Rattle.fossil.specs.Acts.{input_of, loaded_of, IsOpened, Acts}
use Rattle.fossil.proofs.ActLemmas.{still, unshun_loads}
use Rattle.fossil.proofs.AppendLemmas.{memory_acted, failed_acted, appended_acted, idle_acted}
use Rattle.fossil.proofs.UnshunLemmas.{has_unshunned, unshun_appended, full_appended}
use Rattle.fossil.proofs.ShunLemmas.{was_due, commit_rose, commit_settles}
use Rattle.fossil.proofs.commands.unshun.unlist.Goals as goal

pub returns-in-Err : goal.returns-in-Err
returns-in-Err g c = λ disk input clock opened.
    let same : g.D.Disk.state c.unshun.new.self.disk ≡ g.D.Disk.state c.args.repo.now.disk = λ i. g.D.Disk.state (c.unshun.ensures.disk i) in
    subst (λ (s : DiskState). Acts (command_of.Unshun c.args.name) (input, input) (clock, clock) (g.D.Disk.state disk, s) (Err fault_is.Memory)) (sym same)
    (memory_acted (Some (command_of.Unshun c.args.name)) (unshun_loads c.args.name) (input_of (input, input)) (g.D.Disk.state disk) (g.D.Disk.state c.args.repo.now.disk) (loaded_of c.args.repo.now) opened refl clock)

pub returns-in_err-answer : goal.returns-in_err-answer
returns-in_err-answer g c = λ disk input clock opened.
    let p = err_from_is_err_and c.from_residual-in_err-answer.result c.from_residual-in_err-answer.ensures.1 in
    let same : g.D.Disk.state c.unshun.new.self.disk ≡ g.D.Disk.state c.args.repo.now.disk = λ i. g.D.Disk.state (c.unshun.ensures.disk i) in
    rw (p.1, p.2)
    (subst (λ (s : DiskState). Acts (command_of.Unshun c.args.name) (input, input) (clock, clock) (g.D.Disk.state disk, s) (Err fault_is.Memory)) (sym same)
    (memory_acted (Some (command_of.Unshun c.args.name)) (unshun_loads c.args.name) (input_of (input, input)) (g.D.Disk.state disk) (g.D.Disk.state c.args.repo.now.disk) (loaded_of c.args.repo.now) opened refl clock))

pub returns-in-Err-committed : goal.returns-in-Err-committed
returns-in-Err-committed g c = λ disk input clock opened.
    let before = c.args.repo.now in
    let mid = c.unshun.new.self in
    let left = c.commit-committed.new.self in
    let same : g.D.Disk.state mid.disk ≡ g.D.Disk.state before.disk = λ i. g.D.Disk.state (c.unshun.ensures.disk i) in
    let opened_mid = subst (λ (s : DiskState). IsOpened (g.D.Disk.state disk) s (loaded_of before)) (sym same) opened in
    let has = has_unshunned before.seen.state mid.seen.state c.args.name (Ok c.in-Ok.done) c.requires.runs (λ e. cc) c.in-Ok.ensures.step in
    failed_acted (Some (command_of.Unshun c.args.name)) (unshun_loads c.args.name) (input_of (input, input)) (g.D.Disk.state disk) (g.D.Disk.state mid.disk) (loaded_of before) opened_mid
    (still clock) (loaded_of mid) c.in_ok-answer.answer (unshun_appended c.args.name input clock opened_mid.stands.0 before mid c.in-Ok.done c.in_ok-answer.answer c.in_ok-answer.ensures has)
    (g.D.Disk.state left.disk) c.commit-committed.ensures.keeps c.commit-committed.ensures.any_moment
    (λ held model told. g.met.D.Disk.reads_as_image disk held model told) (λ held model told. g.met.D.Disk.reads_as_image left.disk held model told)
    (commit_rose mid left (g.D.Disk.state mid.disk) (g.D.Disk.state left.disk) c.is_whole.ensures c.is_whole-2.ensures has.runs _ c.in-Err-committed.ensures.step)
    (was_due mid.seen.state _ c.commit-committed.result c.in-Err-committed.is has.runs c.is_whole.ensures.seen.committed c.commit-committed.ensures.nothing)

pub returns-in-Ok-committed : goal.returns-in-Ok-committed
returns-in-Ok-committed g c = λ disk input clock opened.
    let before = c.args.repo.now in
    let mid = c.unshun.new.self in
    let left = c.commit-committed.new.self in
    let same : g.D.Disk.state mid.disk ≡ g.D.Disk.state before.disk = λ i. g.D.Disk.state (c.unshun.ensures.disk i) in
    let opened_mid = subst (λ (s : DiskState). IsOpened (g.D.Disk.state disk) s (loaded_of before)) (sym same) opened in
    let has = has_unshunned before.seen.state mid.seen.state c.args.name (Ok c.in-Ok.done) c.requires.runs (λ e. cc) c.in-Ok.ensures.step in
    appended_acted (Some (command_of.Unshun c.args.name)) (unshun_loads c.args.name) (input_of (input, input)) (g.D.Disk.state disk) (g.D.Disk.state mid.disk) (loaded_of before) opened_mid
    (still clock) (loaded_of mid) c.in_ok-answer.answer (unshun_appended c.args.name input clock opened_mid.stands.0 before mid c.in-Ok.done c.in_ok-answer.answer c.in_ok-answer.ensures has)
    (g.D.Disk.state left.disk) c.commit-committed.ensures.keeps c.commit-committed.ensures.any_moment
    (λ held model told. g.met.D.Disk.reads_as_image disk held model told)
    (commit_settles mid left (g.D.Disk.state mid.disk) (g.D.Disk.state left.disk) c.is_whole.ensures c.is_whole-2.ensures has.runs _ c.in-Ok-committed.ensures.step)
    c.in-Ok-committed.ensures.durable

pub returns-in_err-full-in-Err-Full : goal.returns-in_err-full-in-Err-Full
returns-in_err-full-in-Err-Full g c = λ disk input clock opened.
    let p = err_from_is_err_and c.from_residual.result c.from_residual.ensures.1 in
    let same : g.D.Disk.state c.unshun.new.self.disk ≡ g.D.Disk.state c.args.repo.now.disk = λ i. g.D.Disk.state (c.unshun.ensures.disk i) in
    rw (p.1, p.2)
    (subst (λ (s : DiskState). Acts (command_of.Unshun c.args.name) (input, input) (clock, clock) (g.D.Disk.state disk, s) (Err fault_is.Memory)) (sym same)
    (memory_acted (Some (command_of.Unshun c.args.name)) (unshun_loads c.args.name) (input_of (input, input)) (g.D.Disk.state disk) (g.D.Disk.state c.args.repo.now.disk) (loaded_of c.args.repo.now) opened refl clock))

pub returns-in-Err-Full : goal.returns-in-Err-Full
returns-in-Err-Full g c = λ disk input clock opened.
    let before = c.args.repo.now in
    let mid = c.unshun.new.self in
    let same : g.D.Disk.state mid.disk ≡ g.D.Disk.state before.disk = λ i. g.D.Disk.state (c.unshun.ensures.disk i) in
    let fault = unshun_fault.Full c.in-Err-Full.field-0-0 in
    let answer = c.in_ok-full-in-Err-Full.field-0 in
    let has = has_unshunned before.seen.state mid.seen.state c.args.name (Err fault) c.requires.runs (λ e. cc) (rw c.in-Err-Full.field-0-is at c.in-Err-Full.ensures.step) in
    subst (λ (s : DiskState). Acts (command_of.Unshun c.args.name) (input, input) (clock, clock) (g.D.Disk.state disk, s) (Ok answer)) (sym same)
    (idle_acted (Some (command_of.Unshun c.args.name)) (unshun_loads c.args.name) (input_of (input, input)) (still clock) (g.D.Disk.state disk) (g.D.Disk.state before.disk) (loaded_of before) opened answer
    (full_appended c.args.name input clock opened.stands.0 before mid.seen.state fault answer c.in_ok-full-in-Err-Full.ensures has)
    (same_moments (log_of before) (g.D.Disk.state before.disk) opened.belongs (λ model f left. g.met.D.Disk.only_now before.disk f model left))
    (λ held model told. g.met.D.Disk.reads_as_image disk held model told))
