use Rattle.std.proofs.Common.{Some, refl, subst}
use Rattle.std.proofs.lemmas.Result.{err_from_is_err_and}
use Rattle.fsl_outside.specs.Streams.{SourceState}
use Rattle.fsl_journal.proofs.Belonging.{same_moments}
use Rattle.fsl_repo.specs.Whole.{log_of}
use Rattle.fsl_words.specs.declared.Command.TheVariants as command_of
use Rattle.fossil.specs.Acts.{input_of, loaded_of, IsInput}
use Rattle.fossil.proofs.ActLemmas.{still, put_loads}
use Rattle.fossil.proofs.AppendLemmas.{memory_acted, unread_acted, idle_acted}
use Rattle.fossil.proofs.PutLemmas.{long_appended}
use Rattle.fossil.proofs.commands.put.take_input.Goals as goal

pub returns-in_err-message : goal.returns-in_err-message
returns-in_err-message g c = λ disk opened.
    let p = err_from_is_err_and c.from_residual.result c.from_residual.ensures.1 in
    rw (p.1, p.2)
    (unread_acted (Some command_of.Put) put_loads (input_of (g.S.Source.state c.args.input.now, g.S.Source.state c.read_input.new.input)) (g.D.Disk.state disk) (g.D.Disk.state c.args.repo.now.disk) (loaded_of c.args.repo.now) opened (g.C.Clock.told c.args.clock.now)
    _ c.in_err-message.ensures.err refl)

pub returns-in-Some : goal.returns-in-Some
returns-in-Some g c = λ disk opened.
    let input : SourceState × SourceState = (g.S.Source.state c.args.input.now, g.S.Source.state c.read_input.new.input) in
    c.take_message.ensures disk input (subst (IsInput (input_of input)) c.in-Some.is c.in_ok-message.ensures.ok) opened

pub returns-in_ok-too_long-in-None : goal.returns-in_ok-too_long-in-None
returns-in_ok-too_long-in-None g c = λ disk opened.
    let input : SourceState × SourceState = (g.S.Source.state c.args.input.now, g.S.Source.state c.read_input.new.input) in
    let before = c.args.repo.now in
    idle_acted (Some command_of.Put) put_loads (input_of input) (still (g.C.Clock.told c.args.clock.now)) (g.D.Disk.state disk) (g.D.Disk.state before.disk) (loaded_of before) opened c.in_ok-too_long-in-None.field-0
    (long_appended (input_of input) (g.C.Clock.told c.args.clock.now) opened.stands.0 (loaded_of before) c.in_ok-too_long-in-None.field-0 (subst (IsInput (input_of input)) c.in-None.is c.in_ok-message.ensures.ok) c.in_ok-too_long-in-None.ensures)
    (same_moments (log_of before) (g.D.Disk.state before.disk) opened.belongs (λ model f left. g.met.D.Disk.only_now before.disk f model left))
    (λ held model told. g.met.D.Disk.reads_as_image disk held model told)

pub returns-in_err-too_long-in-None : goal.returns-in_err-too_long-in-None
returns-in_err-too_long-in-None g c = λ disk opened.
    let p = err_from_is_err_and c.from_residual-in_err-too_long-in-None.result c.from_residual-in_err-too_long-in-None.ensures.1 in
    rw (p.1, p.2)
    (memory_acted (Some command_of.Put) put_loads (input_of (g.S.Source.state c.args.input.now, g.S.Source.state c.read_input.new.input)) (g.D.Disk.state disk) (g.D.Disk.state c.args.repo.now.disk) (loaded_of c.args.repo.now) opened (subst (IsInput (input_of (g.S.Source.state c.args.input.now, g.S.Source.state c.read_input.new.input))) c.in-None.is c.in_ok-message.ensures.ok).3 (g.C.Clock.told c.args.clock.now))
