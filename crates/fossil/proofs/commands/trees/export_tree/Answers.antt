use Rattle.std.proofs.Common.{◌≡◌, Some, sym, subst}
use Rattle.fsl_disk.specs.Disk.{DiskState}
use Rattle.fsl_words.specs.declared.Command.TheVariants as command_of
use Rattle.fossil.specs.Acts.{Acts}
use Rattle.fossil.proofs.ActLemmas.{not_loaded_acted}
use Rattle.fossil.proofs.RepoLemmas.{repo_opened, repo_unopened}
use Rattle.fossil.proofs.TreeLemmas.{export_loads}
use Rattle.fossil.proofs.commands.trees.export_tree.Goals as goal

pub returns-in-Ok : goal.returns-in-Ok
returns-in-Ok g c = λ input clock.
    let same : g.D.Disk.state c.close.result ≡ g.D.Disk.state c.export_from-answer.new.repo.disk = λ i. g.D.Disk.state (c.close.ensures i) in
    subst (λ (s : DiskState). Acts (command_of.Export c.args.prefix.now) (input, input) (clock, clock) (g.D.Disk.state c.args.disk, s) c.export_from-answer.result) (sym same)
    (c.export_from-answer.ensures c.args.disk input clock
    (repo_opened (g.D.Disk.state c.args.disk) (g.D.Disk.state c.in-Ok.repo.disk) c.in-Ok.repo c.in-Ok.ensures.opened c.is_whole.ensures c.in-Ok.ensures.any_moment c.in-Ok.ensures.keeps))

pub returns-in-Err : goal.returns-in-Err
returns-in-Err g c = λ input clock.
    let file = g.D.Disk.state c.args.disk in
    let left = g.D.Disk.state c.in-Err.disk in
    not_loaded_acted (Some (command_of.Export c.args.prefix.now)) (export_loads c.args.prefix.now) input clock file left
    (λ held model told. g.met.D.Disk.reads_as_image c.in-Err.disk held model told) c.in-Err.fault c.not_loaded.result
    (repo_unopened file left c.in-Err.fault c.in-Err.ensures.fault c.in-Err.ensures.spared c.in-Err.ensures.refused c.in-Err.ensures.any_moment c.in-Err.ensures.keeps) c.not_loaded.ensures
