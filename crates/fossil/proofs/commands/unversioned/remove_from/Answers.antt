use Rattle.std.proofs.Common.{◌∙◌, Some, refl, sym}
use Rattle.std.proofs.lemmas.Result.{err_from_is_err_and}
use Rattle.fsl_journal.proofs.Belonging.{same_moments}
use Rattle.fsl_words.specs.declared.Command.TheVariants as command_of
use Rattle.fsl_words.specs.declared.Unversioned.TheVariants as uv
use Rattle.fossil.specs.Acts.{input_of}
use Rattle.fossil.specs.UvCalls.{loaded_store}
use Rattle.fossil.proofs.ActLemmas.{still}
use Rattle.fossil.proofs.AppendLemmas.{memory_acted, idle_acted}
use Rattle.fossil.proofs.UvLemmas.{remove_loads, absent_appended}
use Rattle.fossil.proofs.commands.unversioned.remove_from.Goals as goal

pub returns-then-is_there : goal.returns-then-is_there
returns-then-is_there g c = λ disk input opened.
    c.store_entry-answer.ensures disk (input, input) (g.C.Clock.told c.args.clock.now, g.C.Clock.told c.now.new.self) (refl, sym c.is_there.ensures ∙ c.if-is_there.true) (c.now.ensures.moment, c.now.ensures.tells) opened

pub returns-in_ok-no_file : goal.returns-in_ok-no_file
returns-in_ok-no_file g c = λ disk input opened.
    let before = c.args.store.now in
    idle_acted (Some (command_of.Unversioned (uv.Remove c.args.path))) (remove_loads c.args.path) (input_of (input, input)) (still (g.C.Clock.told c.args.clock.now)) (g.D.Disk.state disk) (g.D.Disk.state before.disk) (loaded_store before) opened c.in_ok-no_file.field-0
    (absent_appended c.args.path input (g.C.Clock.told c.args.clock.now) opened.stands.0 before c.is_store.ensures.map c.in_ok-no_file.field-0 (sym c.is_there.ensures ∙ c.if-is_there.false) c.in_ok-no_file.ensures)
    (same_moments before.seen.log (g.D.Disk.state before.disk) opened.belongs (λ model f left. g.met.D.Disk.only_now before.disk f model left))
    (λ held model told. g.met.D.Disk.reads_as_image disk held model told)

pub returns-in_err-no_file : goal.returns-in_err-no_file
returns-in_err-no_file g c = λ disk input opened.
    let p = err_from_is_err_and c.from_residual.result c.from_residual.ensures.1 in
    rw (p.1, p.2)
    (memory_acted (Some (command_of.Unversioned (uv.Remove c.args.path))) (remove_loads c.args.path) (input_of (input, input)) (g.D.Disk.state disk) (g.D.Disk.state c.args.store.now.disk) (loaded_store c.args.store.now) opened refl (g.C.Clock.told c.args.clock.now))
