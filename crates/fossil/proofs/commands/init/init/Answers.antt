use Rattle.std.proofs.lemmas.Result.{err_from_is_err_and}
use Rattle.fossil.proofs.InitLemmas.{made_acted, refused_acted, memory_acted, disk_acted}
use Rattle.fossil.proofs.commands.init.init.Goals as goal

pub returns-in-Ok : goal.returns-in-Ok
returns-in-Ok g c = λ input clock.
    made_acted c.args.config.now input clock (g.D.Disk.state c.args.disk.now) (g.D.Disk.state c.create.new.disk) c.create.ensures.keeps c.create.ensures.any_moment
    (λ held model told. g.met.D.Disk.reads_as_image c.args.disk.now held model told) c.create.ensures.untouched (λ model f left. g.met.D.Disk.only_now c.args.disk.now f model left) c.empty.result c.empty.ensures c.in-Ok.ensures.made c.in-Ok.ensures.durable

pub returns-in_err-numbered_refusal-in-Err-NotEmpty : goal.returns-in_err-numbered_refusal-in-Err-NotEmpty
returns-in_err-numbered_refusal-in-Err-NotEmpty g c = λ input clock.
    let p = err_from_is_err_and c.from_residual.result c.from_residual.ensures.1 in
    rw (p.1, p.2)
    (memory_acted c.args.config.now input clock (g.D.Disk.state c.args.disk.now) (g.D.Disk.state c.create.new.disk) c.create.ensures.keeps c.create.ensures.any_moment
    (λ held model told. g.met.D.Disk.reads_as_image c.args.disk.now held model told) c.create.ensures.untouched (λ model f left. g.met.D.Disk.only_now c.args.disk.now f model left) (rw c.in-Err-NotEmpty.field-0-is at c.in-Err-NotEmpty.ensures.fault).0 (rw c.in-Err-NotEmpty.field-0-is at c.in-Err-NotEmpty.ensures.fault).3)

pub returns-in_ok-numbered_refusal-in-Err-NotEmpty : goal.returns-in_ok-numbered_refusal-in-Err-NotEmpty
returns-in_ok-numbered_refusal-in-Err-NotEmpty g c = λ input clock.
    refused_acted c.args.config.now input clock (g.D.Disk.state c.args.disk.now) (g.D.Disk.state c.create.new.disk) c.create.ensures.keeps c.create.ensures.any_moment
    (λ held model told. g.met.D.Disk.reads_as_image c.args.disk.now held model told) c.create.ensures.untouched (λ model f left. g.met.D.Disk.only_now c.args.disk.now f model left) c.in-Err-NotEmpty.len c.in_ok-numbered_refusal-in-Err-NotEmpty.field-0 (rw c.in-Err-NotEmpty.field-0-is at c.in-Err-NotEmpty.ensures.fault).1 (rw c.in-Err-NotEmpty.field-0-is at c.in-Err-NotEmpty.ensures.fault).2
    (rw c.in-Err-NotEmpty.field-0-is at c.in-Err-NotEmpty.ensures.fault).0 c.in_ok-numbered_refusal-in-Err-NotEmpty.ensures

pub returns-in-Err-Disk : goal.returns-in-Err-Disk
returns-in-Err-Disk g c = λ input clock.
    disk_acted c.args.config.now input clock (g.D.Disk.state c.args.disk.now) (g.D.Disk.state c.create.new.disk) c.create.ensures.keeps c.create.ensures.any_moment
    (λ held model told. g.met.D.Disk.reads_as_image c.args.disk.now held model told) c.create.ensures.untouched (λ model f left. g.met.D.Disk.only_now c.args.disk.now f model left) (λ held model told. g.met.D.Disk.reads_as_image c.create.new.disk held model told) (rw c.in-Err-Disk.field-0-is at c.in-Err-Disk.ensures.fault)

pub returns-in-Err-Memory : goal.returns-in-Err-Memory
returns-in-Err-Memory g c = λ input clock.
    memory_acted c.args.config.now input clock (g.D.Disk.state c.args.disk.now) (g.D.Disk.state c.create.new.disk) c.create.ensures.keeps c.create.ensures.any_moment
    (λ held model told. g.met.D.Disk.reads_as_image c.args.disk.now held model told) c.create.ensures.untouched (λ model f left. g.met.D.Disk.only_now c.args.disk.now f model left) (rw c.in-Err-Memory.field-0-is at c.in-Err-Memory.ensures.fault).0 (rw c.in-Err-Memory.field-0-is at c.in-Err-Memory.ensures.fault).2
