use Rattle.std.proofs.Common.{List, sym, ap, ◌∙◌}
use Rattle.fsl_checkin.specs.declared.types.TreeItem.{TreeItem}
use Rattle.fsl_checkin.specs.Reading.{goes_on}
use Rattle.fsl_checkin.proofs.TreeLemmas.{goes_on-last}
use Rattle.fsl_checkin.proofs.reading.goes_on.Goals as goal

pub returns-in-Some : goal.returns-in-Some
returns-in-Some c =
    c.lt.ensures ∙ sym (ap (λ (l : List TreeItem). goes_on l c.args.next.now) c.in-Some.ensures.cases.0 ∙ goes_on-last c.in-Some.field-0-1.now c.in-Some.last.now c.args.next.now)
