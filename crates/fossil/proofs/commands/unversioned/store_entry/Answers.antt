use Rattle.std.proofs.Common.{◌≡◌, ◌∙◌, false, Some, Err, map, sym, subst}
use Rattle.std.proofs.lemmas.Result.{err_from_is_err_and}
use Rattle.fsl_disk.specs.Disk.{DiskState}
use Rattle.fsl_uv.specs.Stores.{blob_of}
use Rattle.fsl_uv.specs.Reports.{put_done}
use Rattle.fsl_words.specs.declared.Command.TheVariants as command_of
use Rattle.fossil.specs.declared.answers.fault.Fault.TheVariants as fault_is
use Rattle.fossil.specs.Acts.{input_of, clock_of, IsOpened, Acts}
use Rattle.fossil.specs.UvCalls.{loaded_store, putting}
use Rattle.fossil.proofs.AppendLemmas.{memory_timed, failed_acted, appended_acted}
use Rattle.fossil.proofs.UvLemmas.{putting_loads, put_timed, put_steady, put_appended, was_due, commit_rose, commit_settles}
use Rattle.fossil.proofs.commands.unversioned.store_entry.Goals as goal

pub returns-in_err-answer : goal.returns-in_err-answer
returns-in_err-answer g c = λ disk input clock due asked opened.
    let e = c.args.entry.now in
    let before = c.args.store.now in
    let p = err_from_is_err_and c.from_residual.result c.from_residual.ensures.1 in
    let same : g.D.Disk.state c.put_in.new.store.disk ≡ g.D.Disk.state before.disk = λ i. g.D.Disk.state (c.put_in.ensures.disk i) in
    let timed = put_timed before (input_of input) (clock_of clock) opened.stands.0 false e.path e.moment e.bytes c.is_store.ensures.map opened.stands.2 due asked in
    rw (p.1, p.2)
    (subst (λ (s : DiskState). Acts (command_of.Unversioned (putting e.path e.bytes)) input clock (g.D.Disk.state disk, s) (Err fault_is.Memory)) (sym same)
    (memory_timed (Some (command_of.Unversioned (putting e.path e.bytes))) (putting_loads e.path e.bytes) (input_of input) (g.D.Disk.state disk) (g.D.Disk.state before.disk) (loaded_store before) opened (put_steady e.path e.bytes before.seen.map (input_of input) due) (clock_of clock) timed.0 e.moment timed.1 timed.2))

pub returns-in-Err : goal.returns-in-Err
returns-in-Err g c = λ disk input clock due asked opened.
    let e = c.args.entry.now in
    let before = c.args.store.now in
    let mid = c.put_in.new.store in
    let left = c.commit-committed.new.self in
    let same : g.D.Disk.state mid.disk ≡ g.D.Disk.state before.disk = λ i. g.D.Disk.state (c.put_in.ensures.disk i) in
    let opened_mid = subst (λ (s : DiskState). IsOpened (g.D.Disk.state disk) s (loaded_store before)) (sym same) opened in
    let has = c.in_ok-answer.ensures.done in
    let runs = has.stopped ∙ c.requires.runs in
    failed_acted (Some (command_of.Unversioned (putting e.path e.bytes))) (putting_loads e.path e.bytes) (input_of input) (g.D.Disk.state disk) (g.D.Disk.state mid.disk) (loaded_store before) opened_mid
    (clock_of clock) (loaded_store mid) c.in_ok-answer.answer (put_appended before mid (input_of input) (clock_of clock) opened_mid.stands.0 c.in_ok-answer.answer c.is_store.ensures.map e due asked has)
    (g.D.Disk.state left.disk) c.commit-committed.ensures.keeps c.commit-committed.ensures.any_moment
    (λ held model told. g.met.D.Disk.reads_as_image disk held model told) (λ held model told. g.met.D.Disk.reads_as_image left.disk held model told)
    (commit_rose _ mid.seen.log left.seen.log (g.D.Disk.state mid.disk) (g.D.Disk.state left.disk) runs c.in-Err.ensures.fault)
    (was_due before.seen.log mid.seen.log (map blob_of (put_done before.seen.map e).here) _ c.commit-committed.result c.in-Err.is opened.is_open.stable has.records has.stable runs c.commit-committed.ensures.nothing)

pub returns-in-Ok : goal.returns-in-Ok
returns-in-Ok g c = λ disk input clock due asked opened.
    let e = c.args.entry.now in
    let before = c.args.store.now in
    let mid = c.put_in.new.store in
    let left = c.commit-committed.new.self in
    let same : g.D.Disk.state mid.disk ≡ g.D.Disk.state before.disk = λ i. g.D.Disk.state (c.put_in.ensures.disk i) in
    let opened_mid = subst (λ (s : DiskState). IsOpened (g.D.Disk.state disk) s (loaded_store before)) (sym same) opened in
    let has = c.in_ok-answer.ensures.done in
    appended_acted (Some (command_of.Unversioned (putting e.path e.bytes))) (putting_loads e.path e.bytes) (input_of input) (g.D.Disk.state disk) (g.D.Disk.state mid.disk) (loaded_store before) opened_mid
    (clock_of clock) (loaded_store mid) c.in_ok-answer.answer (put_appended before mid (input_of input) (clock_of clock) opened_mid.stands.0 c.in_ok-answer.answer c.is_store.ensures.map e due asked has)
    (g.D.Disk.state left.disk) c.commit-committed.ensures.keeps c.commit-committed.ensures.any_moment
    (λ held model told. g.met.D.Disk.reads_as_image disk held model told)
    (commit_settles _ mid.seen.log left.seen.log (g.D.Disk.state mid.disk) (g.D.Disk.state left.disk) c.in-Ok.ensures.ok c.is_store-2.ensures.belongs)
    c.in-Ok.ensures.durable
