use Rattle.std.proofs.Common.{◌≡◌, ◌++◌, map, drop}
use Rattle.fsl_card.specs.Cards.{text_of}
use Rattle.fsl_forms.specs.Writing.{change_card}
use Rattle.fsl_forms.proofs.ticket.write_changes.Given as goal

abbrev pub invariant-loop-change : goal.invariant-loop-change
invariant-loop-change l =
    l.fn.into ++ text_of (map change_card l.changes) ≡ l.into ++ text_of (map change_card (drop l.change-index l.changes))
