use Rattle.std.proofs.Common.{◌≡◌, map, take}
use Rattle.fossil.specs.Checkins.{sent_of}
use Rattle.fossil.proofs.commands.checkin.contents.Given as goal

abbrev pub invariant-loop-item : goal.invariant-loop-item
invariant-loop-item l = l.files.items ≡ map (λ item. sent_of item.bytes) (take l.item-index l.items)
