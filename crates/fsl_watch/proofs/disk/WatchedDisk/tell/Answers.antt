use Rattle.std.proofs.Common.{◌∙◌, true, subst}
use Rattle.fsl_watch.specs.Lines.{disk_line, Notes}
use Rattle.fsl_watch.proofs.disk.WatchedDisk.tell.Goals as goal

pub returns-then-is_due-clause-tells : goal.returns-then-is_due-clause-tells
returns-then-is_due-clause-tells g c =
    let ticks = c.if-is_due.ensures.ticks in
    let line = disk_line c.self.inside.whose c.self.inside.progress in
    let notes = c.put.ensures.notes line c.disk_line.ensures in
    rw (← c.self.view_is) (
      true,
      (ticks.0, ticks.1, c.put.ensures.due ∙ ticks.2),
      subst (λ out. Notes (g.K.Sink.state out) (g.K.Sink.state c.put.new.self.out) line) c.if-is_due.ensures.out notes,
    )
