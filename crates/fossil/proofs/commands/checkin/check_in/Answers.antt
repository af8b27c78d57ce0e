use Rattle.std.proofs.Common.{◌≡◌, false, ℕ, Some, Ok, Err, sym, subst}
use Rattle.std.proofs.lemmas.Result.{err_from_is_err_and}
use Rattle.fsl_disk.specs.Disk.{DiskState}
use Rattle.fsl_journal.proofs.Belonging.{same_moments}
use Rattle.fsl_repo.specs.Whole.{log_of}
use Rattle.fossil.specs.declared.answers.fault.Fault.TheVariants as fault_is
use Rattle.fossil.specs.Acts.{input_of, clock_of, loaded_of, IsOpened, Acts}
use Rattle.fossil.specs.CheckinCall.{AreArriving, asked_for}
use Rattle.fossil.specs.Taking.{HaveArrived}
use Rattle.fossil.proofs.AppendLemmas.{memory_timed, failed_acted, appended_acted, idle_acted}
use Rattle.fossil.proofs.CheckinLemmas.{checkin_loads, checkin_timed, checked_appended, arrival_appended}
use Rattle.fossil.proofs.ShunLemmas.{was_due, commit_rose, commit_settles}
use Rattle.fossil.proofs.commands.checkin.check_in.Goals as goal

pub returns-in_err-made : goal.returns-in_err-made
returns-in_err-made g c = λ text clock tree parent taken disk input is opened.
    let p = err_from_is_err_and c.from_residual.result c.from_residual.ensures.1 in
    let a = c.args.asked.now in
    rw (p.1, p.2)
    (memory_timed (Some (asked_for a)) (checkin_loads a) (input_of input) (g.D.Disk.state disk) (g.D.Disk.state c.args.repo.now.disk) (loaded_of c.args.repo.now) opened is.3 (clock_of clock) text c.args.receipt.now.moment is.0
    (checkin_timed a (clock_of clock) c.args.receipt.now false text opened.stands.0 c.args.repo.now.seen.state.records c.args.items.now c.args.repo.now.seen.items c.args.parent taken opened.stands.2 is.2 tree c.is_whole.ensures.seen.items parent))

pub returns-in_err-text : goal.returns-in_err-text
returns-in_err-text g c = λ text clock tree parent taken disk input is opened.
    let p = err_from_is_err_and c.from_residual-in_err-text.result c.from_residual-in_err-text.ensures.1 in
    let a = c.args.asked.now in
    let before = c.args.repo.now in
    let mid = c.arrive.new.repo in
    let same : g.D.Disk.state mid.disk ≡ g.D.Disk.state before.disk = λ i. g.D.Disk.state (c.arrive.ensures.disk i) in
    rw (p.1, p.2)
    (subst (λ (s : DiskState). Acts (asked_for a) input clock (g.D.Disk.state disk, s) (Err fault_is.Memory)) (sym same)
    (memory_timed (Some (asked_for a)) (checkin_loads a) (input_of input) (g.D.Disk.state disk) (g.D.Disk.state c.args.repo.now.disk) (loaded_of c.args.repo.now) opened is.3 (clock_of clock) text c.args.receipt.now.moment is.0
    (checkin_timed a (clock_of clock) c.args.receipt.now false text opened.stands.0 c.args.repo.now.seen.state.records c.args.items.now c.args.repo.now.seen.items c.args.parent taken opened.stands.2 is.2 tree c.is_whole.ensures.seen.items parent)))

pub returns-in_err-add_line : goal.returns-in_err-add_line
returns-in_err-add_line g c = λ text clock tree parent taken disk input is opened.
    let p = err_from_is_err_and c.from_residual-in_err-add_line.result c.from_residual-in_err-add_line.ensures.1 in
    let a = c.args.asked.now in
    let before = c.args.repo.now in
    let mid = c.arrive.new.repo in
    let same : g.D.Disk.state mid.disk ≡ g.D.Disk.state before.disk = λ i. g.D.Disk.state (c.arrive.ensures.disk i) in
    rw (p.1, p.2)
    (subst (λ (s : DiskState). Acts (asked_for a) input clock (g.D.Disk.state disk, s) (Err fault_is.Memory)) (sym same)
    (memory_timed (Some (asked_for a)) (checkin_loads a) (input_of input) (g.D.Disk.state disk) (g.D.Disk.state c.args.repo.now.disk) (loaded_of c.args.repo.now) opened is.3 (clock_of clock) text c.args.receipt.now.moment is.0
    (checkin_timed a (clock_of clock) c.args.receipt.now false text opened.stands.0 c.args.repo.now.seen.state.records c.args.items.now c.args.repo.now.seen.items c.args.parent taken opened.stands.2 is.2 tree c.is_whole.ensures.seen.items parent)))

pub returns-in-Refused : goal.returns-in-Refused
returns-in-Refused g c = λ text clock tree parent taken disk input is opened.
    let a = c.args.asked.now in
    let before = c.args.repo.now in
    let mid = c.arrive.new.repo in
    let same : g.D.Disk.state mid.disk ≡ g.D.Disk.state before.disk = λ i. g.D.Disk.state (c.arrive.ensures.disk i) in
    let refused = subst (HaveArrived c.args.receipt.now c.in_ok-made.made.files before.seen.state mid.seen.state) c.in-Refused.is c.in_ok-text.ensures.arrived in
    subst (λ (s : DiskState). Acts (asked_for a) input clock (g.D.Disk.state disk, s) (Ok c.in-Refused.answer)) (sym same)
    (idle_acted (Some (asked_for a)) (checkin_loads a) (input_of input) (clock_of clock) (g.D.Disk.state disk) (g.D.Disk.state before.disk) (loaded_of before) opened c.in-Refused.answer
    (arrival_appended a (input_of input) (clock_of clock) c.args.receipt.now opened.stands.0 text before c.args.items.now c.args.parent c.in_ok-made.made taken is tree c.is_whole.ensures.seen.items parent (subst (λ (m : ℕ). AreArriving a c.args.items.now c.args.parent m c.in_ok-made.made) c.moment.ensures.value c.in_ok-made.ensures)
    c.in-Refused.answer refused)
    (same_moments (log_of before) (g.D.Disk.state before.disk) opened.belongs (λ model f left. g.met.D.Disk.only_now before.disk f model left))
    (λ held model told. g.met.D.Disk.reads_as_image disk held model told))

pub returns-in-Err : goal.returns-in-Err
returns-in-Err g c = λ text clock tree parent taken disk input is opened.
    let a = c.args.asked.now in
    let before = c.args.repo.now in
    let mid = c.arrive.new.repo in
    let same : g.D.Disk.state mid.disk ≡ g.D.Disk.state before.disk = λ i. g.D.Disk.state (c.arrive.ensures.disk i) in
    let left = c.commit-committed.new.self in
    let opened_mid = subst (λ (s : DiskState). IsOpened (g.D.Disk.state disk) s (loaded_of before)) (sym same) opened in
    let arrived = subst (HaveArrived c.args.receipt.now c.in_ok-made.made.files before.seen.state mid.seen.state) c.in-Taken.is c.in_ok-text.ensures.arrived in
    let appended = checked_appended a (input_of input) (clock_of clock) c.args.receipt.now opened_mid.stands.0 text before c.args.items.now c.args.parent c.in_ok-made.made taken is tree c.is_whole.ensures.seen.items parent (subst (λ (m : ℕ). AreArriving a c.args.items.now c.args.parent m c.in_ok-made.made) c.moment.ensures.value c.in_ok-made.ensures)
    mid c.in-Taken.text c.add_line.new.text arrived c.in_ok-add_line.ensures in
    failed_acted (Some (asked_for a)) (checkin_loads a) (input_of input) (g.D.Disk.state disk) (g.D.Disk.state mid.disk) (loaded_of before) opened_mid
    (clock_of clock) (loaded_of mid) (record { status = 0; text = c.add_line.new.text }) appended
    (g.D.Disk.state left.disk) c.commit-committed.ensures.keeps c.commit-committed.ensures.any_moment
    (λ held model told. g.met.D.Disk.reads_as_image disk held model told) (λ held model told. g.met.D.Disk.reads_as_image left.disk held model told)
    (commit_rose mid left (g.D.Disk.state mid.disk) (g.D.Disk.state left.disk) c.is_whole-2.ensures c.is_whole-3.ensures arrived.runs _ c.in-Err.ensures.step)
    (was_due mid.seen.state _ c.commit-committed.result c.in-Err.is arrived.runs c.is_whole-2.ensures.seen.committed c.commit-committed.ensures.nothing)

pub returns-in-Ok : goal.returns-in-Ok
returns-in-Ok g c = λ text clock tree parent taken disk input is opened.
    let a = c.args.asked.now in
    let before = c.args.repo.now in
    let mid = c.arrive.new.repo in
    let same : g.D.Disk.state mid.disk ≡ g.D.Disk.state before.disk = λ i. g.D.Disk.state (c.arrive.ensures.disk i) in
    let left = c.commit-committed.new.self in
    let opened_mid = subst (λ (s : DiskState). IsOpened (g.D.Disk.state disk) s (loaded_of before)) (sym same) opened in
    let arrived = subst (HaveArrived c.args.receipt.now c.in_ok-made.made.files before.seen.state mid.seen.state) c.in-Taken.is c.in_ok-text.ensures.arrived in
    let appended = checked_appended a (input_of input) (clock_of clock) c.args.receipt.now opened_mid.stands.0 text before c.args.items.now c.args.parent c.in_ok-made.made taken is tree c.is_whole.ensures.seen.items parent (subst (λ (m : ℕ). AreArriving a c.args.items.now c.args.parent m c.in_ok-made.made) c.moment.ensures.value c.in_ok-made.ensures)
    mid c.in-Taken.text c.add_line.new.text arrived c.in_ok-add_line.ensures in
    appended_acted (Some (asked_for a)) (checkin_loads a) (input_of input) (g.D.Disk.state disk) (g.D.Disk.state mid.disk) (loaded_of before) opened_mid
    (clock_of clock) (loaded_of mid) (record { status = 0; text = c.add_line.new.text }) appended
    (g.D.Disk.state left.disk) c.commit-committed.ensures.keeps c.commit-committed.ensures.any_moment
    (λ held model told. g.met.D.Disk.reads_as_image disk held model told)
    (commit_settles mid left (g.D.Disk.state mid.disk) (g.D.Disk.state left.disk) c.is_whole-2.ensures c.is_whole-3.ensures arrived.runs _ c.in-Ok.ensures.step)
    c.in-Ok.ensures.durable
