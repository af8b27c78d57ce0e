use Rattle.std.proofs.Common.{◌≡◌, take}
use Rattle.std.specs.Prelude.{filter_map}
use Rattle.std.specs.List.{enumerate_from}
use Rattle.fsl_cross.specs.Facts.{assertion}
use Rattle.fsl_cross.proofs.facts.tags.assertions_of.Given as goal

-- what the cards that were passed say
abbrev pub invariant-loop-place : goal.invariant-loop-place
invariant-loop-place l = l.list ≡ filter_map (assertion l.date l.source) (enumerate_from 0 (take l.place l.cards))
