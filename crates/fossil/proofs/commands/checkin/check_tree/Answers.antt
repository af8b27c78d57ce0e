use Rattle.std.proofs.Common.{Some, sym, ◌∙◌}
use Rattle.std.proofs.lemmas.Result.{err_from_is_err_and}
use Rattle.fsl_journal.proofs.Belonging.{same_moments}
use Rattle.fsl_repo.specs.Whole.{log_of}
use Rattle.fossil.specs.Acts.{input_of, loaded_of}
use Rattle.fossil.specs.CheckinCall.{asked_for}
use Rattle.fossil.proofs.ActLemmas.{still}
use Rattle.fossil.proofs.AppendLemmas.{memory_acted, idle_acted}
use Rattle.fossil.proofs.CheckinLemmas.{checkin_loads, parent_appended}
use Rattle.fossil.proofs.commands.checkin.check_tree.Goals as goal

pub returns-in_err-parent : goal.returns-in_err-parent
returns-in_err-parent g c = λ text tree disk input is opened.
    let p = err_from_is_err_and c.from_residual.result c.from_residual.ensures.1 in
    let a = c.args.asked.now in
    rw (p.1, p.2) (memory_acted (Some (asked_for a)) (checkin_loads a) (input_of input) (g.D.Disk.state disk) (g.D.Disk.state c.args.repo.now.disk) (loaded_of c.args.repo.now) opened is.3 (g.C.Clock.told c.args.clock.now))

pub returns-in-Ok : goal.returns-in-Ok
returns-in-Ok g c = λ text tree disk input is opened. c.check_over.ensures (sym c.in_ok-parent.ensures ∙ c.in-Ok.is) text tree disk input is opened

pub returns-in_ok-question_refusal-in-Err : goal.returns-in_ok-question_refusal-in-Err
returns-in_ok-question_refusal-in-Err g c = λ text tree disk input is opened.
    let a = c.args.asked.now in
    let before = c.args.repo.now in
    idle_acted (Some (asked_for a)) (checkin_loads a) (input_of input) (still (g.C.Clock.told c.args.clock.now)) (g.D.Disk.state disk) (g.D.Disk.state before.disk) (loaded_of before) opened c.in_ok-question_refusal-in-Err.field-0
    (parent_appended a (input_of input) (g.C.Clock.told c.args.clock.now) opened.stands.0 (loaded_of before) c.in_ok-question_refusal-in-Err.field-0 text c.args.items.now before.seen.items c.in-Err.refused is tree
    c.is_whole.ensures.seen.items (sym c.in_ok-parent.ensures ∙ c.in-Err.is) c.in_ok-question_refusal-in-Err.ensures)
    (same_moments (log_of before) (g.D.Disk.state before.disk) opened.belongs (λ model f left. g.met.D.Disk.only_now before.disk f model left))
    (λ held model told. g.met.D.Disk.reads_as_image disk held model told)

pub returns-in_err-question_refusal-in-Err : goal.returns-in_err-question_refusal-in-Err
returns-in_err-question_refusal-in-Err g c = λ text tree disk input is opened.
    let p = err_from_is_err_and c.from_residual-in_err-question_refusal-in-Err.result c.from_residual-in_err-question_refusal-in-Err.ensures.1 in
    let a = c.args.asked.now in
    rw (p.1, p.2) (memory_acted (Some (asked_for a)) (checkin_loads a) (input_of input) (g.D.Disk.state disk) (g.D.Disk.state c.args.repo.now.disk) (loaded_of c.args.repo.now) opened is.3 (g.C.Clock.told c.args.clock.now))
