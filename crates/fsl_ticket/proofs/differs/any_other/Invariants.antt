use Rattle.std.proofs.Common.{◌≡◌, false, take}
use Rattle.std.specs.List.{list_any}
use Rattle.fsl_ticket.specs.Kept.{rows_of}
use Rattle.fsl_ticket.specs.Walked.{is_other_by}
use Rattle.fsl_ticket.proofs.differs.any_other.Given as goal

-- none of the fields that were passed differs
abbrev pub invariant-loop-field : goal.invariant-loop-field
invariant-loop-field g l = list_any (is_other_by (rows_of l.maps) l.fact) (take l.field-index l.configured) ≡ false
