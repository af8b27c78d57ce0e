use Rattle.std.proofs.Common.{◌∙◌, ◌+◌, ◌≤◌, ap, length, subst}
use Rattle.fsl_order.specs.Causes.{Rose}
use Rattle.fsl_disk.specs.Front.{fronted}
use Rattle.fsl_disk.proofs.Fronting.{fronted_read, on_same, on_both, on_err_same, never_short}
use Rattle.fsl_disk.proofs.front.FrontDiskDisk.read_at.Goals as goal

pub returns-clause-answer : goal.returns-clause-answer
returns-clause-answer g c =
    let i = c.self.inside in
    let told = c.read_front-answer in
    on_same c.settle.result told.result _ _ c.settle.ensures.same (on_both told.result _ _ told.ensures.inside told.ensures.answer)
    (λ read held is. fronted_read g.F.Shared.state i.first.value i.file i.front i.faults c.args.at _ told.new.into c.self.invariant told.ensures.length read.0 read.1 held (ap (λ d. (fronted g.F.Shared.state d.first d.front d.faults).contents) c.self.view_is ∙ is))

pub returns-clause-served : goal.returns-clause-served
returns-clause-served g c =
    let i = c.self.inside in
    let told = c.read_front-answer in
    on_err_same c.settle.result told.result _ _ c.settle.ensures.same told.ensures.cause
    (λ failed. subst (λ d. c.args.at + length c.args.into.now ≤ d.front.len → Rose (g.F.Shared.state d.file).faults (g.F.Shared.state told.new.file).faults) c.self.view_is
    (λ inside. never_short (g.F.Shared.state i.first.value) (g.F.Shared.state i.file) (g.F.Shared.state told.new.file) i.front _ c.self.invariant inside (failed inside)))
