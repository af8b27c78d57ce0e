use Rattle.std.proofs.Common.{◌≡◌, ℕ, List, take}
use Rattle.fsl_order.specs.Maps as maps
use Rattle.fsl_wiki.specs.Kept.{first_of_file}
use Rattle.fsl_wiki.proofs.reading.first_files.Given as goal

-- of the places that were passed each file has its first
abbrev pub invariant-loop-place : goal.invariant-loop-place
invariant-loop-place g l = (file : List ℕ) → maps.value_at l.files.entries file ≡ first_of_file l.facts.held.entries file (take l.place-index l.places)
