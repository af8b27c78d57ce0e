use Rattle.std.proofs.Common.{sym, ◌∙◌}
use Rattle.fsl_uv.proofs.Openings.{entries_failed, refused-there, not-refused}
use Rattle.fsl_uv.proofs.opening.open.Goals as goal

pub returns-in-Err-kept-clause-fault : goal.returns-in-Err-kept-clause-fault
returns-in-Err-kept-clause-fault g c =
    let l = c.in-Ok.ensures in
    entries_failed c.in-Ok.journal c.in-Ok.records (g.D.Disk.state c.args.disk.now) (g.D.Disk.state c.load.new.disk) l.loaded l.belongs l.count l.stands l.cut l.durable c.in-Err-kept.fault c.in-Err-kept.ensures.fault

pub returns-in-Err-kept-clause-stays : goal.returns-in-Err-kept-clause-stays
returns-in-Err-kept-clause-stays g c = λ at is. absurd (not-refused c.in-Ok.records c.in-Err-kept.fault at c.in-Err-kept.ensures.fault is)

pub returns-in-Err-clause-stays : goal.returns-in-Err-clause-stays
returns-in-Err-clause-stays g c = λ at is. c.in-Err.ensures.stays at (refused-there c.in-Err.fault at (sym c.fault_of.ensures ∙ is))
