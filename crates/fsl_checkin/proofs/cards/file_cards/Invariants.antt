use Rattle.std.proofs.Common.{◌≡◌, map, take}
use Rattle.fsl_checkin.specs.Checkins.{file_card_of}
use Rattle.fsl_checkin.proofs.cards.file_cards.Given as goal

abbrev pub invariant-loop-item : goal.invariant-loop-item
invariant-loop-item l = l.files.items ≡ map file_card_of (take l.item-index l.items)
