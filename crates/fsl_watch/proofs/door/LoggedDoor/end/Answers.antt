use Rattle.fsl_watch.specs.Lines.{request_line}
use Rattle.fsl_watch.proofs.door.LoggedDoor.end.Goals as goal

pub returns-in-Some-clause-notes : goal.returns-in-Some-clause-notes
returns-in-Some-clause-notes g c =
    rw (← c.self.view_is, ← c.in-Some.ensures.value)
    (c.time-ms.result, c.put_out.ensures.notes (request_line c.in-Some.traffic c.time-ms.result) c.request_line.ensures)
