use Rattle.std.proofs.Common.{◌≡◌, ◌+◌, ◌++◌, length, take}
use Rattle.fsl_record.specs.Records.{records_bytes}
use Rattle.fsl_journal.specs.Places.{content_places}
use Rattle.fsl_journal.proofs.places.add_places.Given as goal

abbrev pub invariant-loop-entry : goal.invariant-loop-entry
invariant-loop-entry l = (l.at ≡ l.start + length (records_bytes (take l.entry-index l.records))) × (l.places.items ≡ l.initial.places.items ++ content_places l.start (take l.entry-index l.records))
