use Rattle.std.proofs.Common.{◌≡◌, None, take}
use Rattle.fsl_query.specs.Listings.{unknown_field}
use Rattle.fsl_query.proofs.tickets.unknown_field.Given as goal

-- those that were passed are configured
abbrev pub invariant-loop-field : goal.invariant-loop-field
invariant-loop-field l = unknown_field l.fields (take l.field-index l.asked) ≡ None
