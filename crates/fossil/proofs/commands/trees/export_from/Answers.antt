use Rattle.std.proofs.Common.{sym, ◌∙◌}
use Rattle.std.proofs.lemmas.Result.{err_from_is_err_and}
use Rattle.fsl_words.specs.declared.Command.TheVariants as command_of
use Rattle.fossil.specs.TreeCall.{exporting}
use Rattle.fossil.proofs.TreeLemmas.{export_way, memory_acted, named_acted, refused_acted}
use Rattle.fossil.proofs.commands.trees.export_from.Goals as goal

pub returns-in_err-name : goal.returns-in_err-name
returns-in_err-name g c = λ disk input clock opened.
    let p = err_from_is_err_and c.from_residual.result c.from_residual.ensures.1 in
    rw (p.1, p.2)
    (memory_acted exporting c.args.prefix.now (command_of.Export c.args.prefix.now) (export_way c.args.prefix.now) g.D.Disk.state disk c.args.repo.now c.args.repo.now input clock
    (λ model f left. g.met.D.Disk.only_now c.args.repo.now.disk f model left) opened)

pub returns-in-Ok : goal.returns-in-Ok
returns-in-Ok g c = λ disk input clock opened.
    named_acted exporting c.args.prefix.now (command_of.Export c.args.prefix.now) (export_way c.args.prefix.now) g.D.Disk.state disk c.args.repo.now c.export_named.new.repo input clock
    (λ model f left. g.met.D.Disk.only_now c.args.repo.now.disk f model left) opened c.is_whole.ensures.seen.items c.export_named.ensures.repo c.in-Ok.name (sym c.in-Ok.is ∙ c.in_ok-name.ensures)
    c.export_named.result c.export_named.ensures.answer

pub returns-in_ok-question_refusal-in-Err : goal.returns-in_ok-question_refusal-in-Err
returns-in_ok-question_refusal-in-Err g c = λ disk input clock opened.
    refused_acted exporting c.args.prefix.now (command_of.Export c.args.prefix.now) (export_way c.args.prefix.now) g.D.Disk.state disk c.args.repo.now c.args.repo.now input clock
    (λ model f left. g.met.D.Disk.only_now c.args.repo.now.disk f model left) opened c.in-Err.refused c.in_ok-question_refusal-in-Err.field-0 (sym c.in-Err.is ∙ c.in_ok-name.ensures)
    c.in_ok-question_refusal-in-Err.ensures

pub returns-in_err-question_refusal-in-Err : goal.returns-in_err-question_refusal-in-Err
returns-in_err-question_refusal-in-Err g c = λ disk input clock opened.
    let p = err_from_is_err_and c.from_residual-in_err-question_refusal-in-Err.result c.from_residual-in_err-question_refusal-in-Err.ensures.1 in
    rw (p.1, p.2)
    (memory_acted exporting c.args.prefix.now (command_of.Export c.args.prefix.now) (export_way c.args.prefix.now) g.D.Disk.state disk c.args.repo.now c.args.repo.now input clock
    (λ model f left. g.met.D.Disk.only_now c.args.repo.now.disk f model left) opened)
