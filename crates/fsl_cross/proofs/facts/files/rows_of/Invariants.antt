use Rattle.std.proofs.Common.{◌≡◌, map, take}
use Rattle.fsl_cross.specs.Facts.{file_row}
use Rattle.fsl_cross.proofs.facts.files.rows_of.Given as goal

-- the files of the cards that were passed
abbrev pub invariant-loop-card : goal.invariant-loop-card
invariant-loop-card l = l.rows.items ≡ map file_row (take l.card-index l.cards)
