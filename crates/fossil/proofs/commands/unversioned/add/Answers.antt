use Rattle.std.proofs.Common.{◌≡◌, sym, subst}
use Rattle.fsl_disk.specs.Disk.{DiskState}
use Rattle.fsl_words.specs.declared.Command.TheVariants as command_of
use Rattle.fsl_words.specs.declared.Unversioned.TheVariants as uv
use Rattle.fsl_uv.specs.Reports.{add_done}
use Rattle.fossil.specs.Acts.{Acts}
use Rattle.fossil.proofs.UvLemmas.{add_loads, store_opened, no_store_acted, no_entry_of, no_map}
use Rattle.fossil.proofs.commands.unversioned.add.Goals as goal

pub add_input-answer-requires-clause-runs : goal.add_input-answer-requires-clause-runs
add_input-answer-requires-clause-runs g c = c.in-Ok.ensures.opened.loaded.runs

pub returns-in-Ok : goal.returns-in-Ok
returns-in-Ok g c =
    let same : g.D.Disk.state c.close.result ≡ g.D.Disk.state c.add_input-answer.new.store.disk = λ i. g.D.Disk.state (c.close.ensures i) in
    subst (λ (s : DiskState). Acts (command_of.Unversioned (uv.Add c.args.path)) (g.S.Source.state c.args.input.now, g.S.Source.state c.add_input-answer.new.input) (g.C.Clock.told c.args.clock.now, g.C.Clock.told c.add_input-answer.new.clock) (g.D.Disk.state c.args.disk, s) c.add_input-answer.result) (sym same)
    (c.add_input-answer.ensures c.args.disk
    (store_opened (g.D.Disk.state c.args.disk) (g.D.Disk.state c.in-Ok.store.disk) c.in-Ok.store c.in-Ok.ensures.opened c.is_store.ensures c.in-Ok.ensures.any_moment c.in-Ok.ensures.keeps))

pub returns-in-Err : goal.returns-in-Err
returns-in-Err g c =
    let file = g.D.Disk.state c.args.disk in
    let left = g.D.Disk.state c.in-Err.disk in
    no_store_acted (uv.Add c.args.path) (add_loads c.args.path) (λ honest read moment bytes name records is entry. no_entry_of (λ m. add_done m c.args.path moment read) bytes name records is entry)
    (λ read bytes records name is entry due. no_map bytes records due.0.1.0 name due.0.0 is entry due.0.1.1 due.0.1.2)
    (g.S.Source.state c.args.input.now) (g.C.Clock.told c.args.clock.now) file left
    (λ held model told. g.met.D.Disk.reads_as_image c.in-Err.disk held model told) c.in-Err.ensures.spared c.in-Err.ensures.refused c.in-Err.ensures.any_moment c.in-Err.ensures.keeps
    c.in-Err.fault c.no_store.result c.in-Err.ensures.fault c.no_store.ensures
