use Rattle.fsl_watch.specs.Lines.{round_line}
use Rattle.fsl_watch.proofs.dial.LoggedDial.end.Goals as goal

pub returns-in-Some-clause-notes : goal.returns-in-Some-clause-notes
returns-in-Some-clause-notes g c =
    rw (← c.self.view_is, ← c.in-Some.ensures.value)
    (c.time-ms.result, c.put_out.ensures.notes (round_line c.self.inside.rounds c.in-Some.traffic c.time-ms.result) c.round_line.ensures)
