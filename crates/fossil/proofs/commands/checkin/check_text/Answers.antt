use Rattle.std.proofs.Common.{Some}
use Rattle.std.proofs.lemmas.Result.{err_from_is_err_and}
use Rattle.fsl_journal.proofs.Belonging.{same_moments}
use Rattle.fsl_repo.specs.Whole.{log_of}
use Rattle.fossil.specs.Acts.{input_of, loaded_of}
use Rattle.fossil.specs.CheckinCall.{asked_for}
use Rattle.fossil.proofs.ActLemmas.{still}
use Rattle.fossil.proofs.AppendLemmas.{memory_acted, idle_acted}
use Rattle.fossil.proofs.CheckinLemmas.{checkin_loads, item_appended, good_tree}
use Rattle.fossil.proofs.commands.checkin.check_text.Goals as goal

pub check_tree-answer-requires-clause-can : goal.check_tree-answer-requires-clause-can
check_tree-answer-requires-clause-can g c =
    record { user = c.requires.user; comment = c.requires.comment; good = good_tree c.args.text.now c.in-Ok.items c.in-Ok.ensures.tree; rising = (c.in-Ok.ensures.tree).rising }

pub returns-in-Ok : goal.returns-in-Ok
returns-in-Ok g c = λ disk input is opened. c.check_tree-answer.ensures c.args.text.now c.in-Ok.ensures.tree disk input is opened

pub returns-in_ok-numbered_refusal-in-Err-Item : goal.returns-in_ok-numbered_refusal-in-Err-Item
returns-in_ok-numbered_refusal-in-Err-Item g c = λ disk input is opened.
    let a = c.args.asked.now in
    let before = c.args.repo.now in
    idle_acted (Some (asked_for a)) (checkin_loads a) (input_of input) (still (g.C.Clock.told c.args.clock.now)) (g.D.Disk.state disk) (g.D.Disk.state before.disk) (loaded_of before) opened c.in_ok-numbered_refusal-in-Err-Item.field-0
    (item_appended a (input_of input) (g.C.Clock.told c.args.clock.now) opened.stands.0 (loaded_of before) c.in_ok-numbered_refusal-in-Err-Item.field-0 c.args.text.now c.in-Err-Item.number is
    (rw c.in-Err-Item.field-0-is at c.in-Err-Item.ensures.fault) c.in_ok-numbered_refusal-in-Err-Item.ensures)
    (same_moments (log_of before) (g.D.Disk.state before.disk) opened.belongs (λ model f left. g.met.D.Disk.only_now before.disk f model left))
    (λ held model told. g.met.D.Disk.reads_as_image disk held model told)

pub returns-in_err-numbered_refusal-in-Err-Item : goal.returns-in_err-numbered_refusal-in-Err-Item
returns-in_err-numbered_refusal-in-Err-Item g c = λ disk input is opened.
    let p = err_from_is_err_and c.from_residual.result c.from_residual.ensures.1 in
    let a = c.args.asked.now in
    rw (p.1, p.2) (memory_acted (Some (asked_for a)) (checkin_loads a) (input_of input) (g.D.Disk.state disk) (g.D.Disk.state c.args.repo.now.disk) (loaded_of c.args.repo.now) opened is.3 (g.C.Clock.told c.args.clock.now))

pub returns-in-Err-Memory : goal.returns-in-Err-Memory
returns-in-Err-Memory g c = λ disk input is opened.
    let a = c.args.asked.now in
    memory_acted (Some (asked_for a)) (checkin_loads a) (input_of input) (g.D.Disk.state disk) (g.D.Disk.state c.args.repo.now.disk) (loaded_of c.args.repo.now) opened is.3 (g.C.Clock.told c.args.clock.now)
