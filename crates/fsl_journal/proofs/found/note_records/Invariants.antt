use Rattle.std.proofs.Common.{◌≡◌, ◌++◌, map, take}
use Rattle.fsl_journal.proofs.found.note_records.Given as goal

abbrev pub invariant-loop-record : goal.invariant-loop-record
invariant-loop-record l = map (λ s. s.value) l.kept.items ≡ map (λ s. s.value) l.initial.kept.items ++ take l.record-index l.group
