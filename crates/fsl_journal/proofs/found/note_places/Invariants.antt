use Rattle.std.proofs.Common.{◌≡◌, ◌++◌, map, take}
use Rattle.fsl_journal.proofs.found.note_places.Given as goal

abbrev pub invariant-loop-place : goal.invariant-loop-place
invariant-loop-place l = map (λ s. s.value) l.kept.items ≡ map (λ s. s.value) l.initial.kept.items ++ take l.place-index l.places
