use Rattle.std.proofs.Common.{◌≡◌, refl, sym, subst}
use Rattle.fsl_disk.specs.Disk.{DiskState}
use Rattle.fsl_journal.proofs.Belonging.{same_moments}
use Rattle.fsl_uv.specs.Reports.{list_done}
use Rattle.fsl_words.specs.declared.Command.TheVariants as command_of
use Rattle.fsl_words.specs.declared.Unversioned.TheVariants as uv
use Rattle.fossil.specs.Acts.{Acts}
use Rattle.fossil.proofs.UvLemmas.{list_loads, store_opened, no_store_acted, no_entry_of, shown_acted, list_stores_none}
use Rattle.fossil.proofs.commands.unversioned.list.Goals as goal

pub returns-in-Ok : goal.returns-in-Ok
returns-in-Ok g c = λ input clock.
    let same : g.D.Disk.state c.close.result ≡ g.D.Disk.state c.in-Ok.store.disk = λ i. g.D.Disk.state (c.close.ensures i) in
    let file = g.D.Disk.state c.args.disk in
    let left = g.D.Disk.state c.in-Ok.store.disk in
    let opened = store_opened file left c.in-Ok.store c.in-Ok.ensures.opened c.is_store.ensures c.in-Ok.ensures.any_moment c.in-Ok.ensures.keeps in
    subst (λ (s : DiskState). Acts (command_of.Unversioned uv.List) (input, input) (clock, clock) (file, s) c.lines_of-answer.result) (sym same)
    (shown_acted uv.List list_loads list_done (λ read moment bytes o is. is) (λ read bytes due. due) (λ m. list_stores_none m) refl input clock file left c.in-Ok.store opened c.is_store.ensures.map
    (same_moments c.in-Ok.store.seen.log left opened.belongs (λ model f left. g.met.D.Disk.only_now c.in-Ok.store.disk f model left)) (λ held model told. g.met.D.Disk.reads_as_image c.args.disk held model told)
    c.lines_of-answer.result c.lines_of-answer.ensures)

pub returns-in-Err : goal.returns-in-Err
returns-in-Err g c = λ input clock.
    let file = g.D.Disk.state c.args.disk in
    let left = g.D.Disk.state c.in-Err.disk in
    no_store_acted uv.List list_loads (λ honest read moment bytes name records is entry. no_entry_of list_done bytes name records is entry) (λ read bytes records name is entry due. due) input clock file left
    (λ held model told. g.met.D.Disk.reads_as_image c.in-Err.disk held model told) c.in-Err.ensures.spared c.in-Err.ensures.refused c.in-Err.ensures.any_moment c.in-Err.ensures.keeps
    c.in-Err.fault c.no_store.result c.in-Err.ensures.fault c.no_store.ensures
