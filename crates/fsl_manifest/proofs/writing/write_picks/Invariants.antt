use Rattle.std.proofs.Common.{◌≡◌, ◌++◌, map, drop}
use Rattle.fsl_card.specs.Cards.{text_of}
use Rattle.fsl_manifest.specs.Writing.{pick_card}
use Rattle.fsl_manifest.proofs.writing.write_picks.Given as goal

abbrev pub invariant-loop-pick : goal.invariant-loop-pick
invariant-loop-pick l =
    l.fn.into ++ text_of (map pick_card l.picks) ≡ l.into ++ text_of (map pick_card (drop l.pick-index l.picks))
