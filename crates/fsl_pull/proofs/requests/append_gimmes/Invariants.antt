use Rattle.std.proofs.Common.{◌≡◌, ◌++◌, map, take}
use Rattle.fsl_wire.specs.declared.WireCard.TheVariants as card_is
use Rattle.fsl_wire.specs.Writing.{message_bytes}
use Rattle.fsl_pull.proofs.requests.append_gimmes.Given as goal

abbrev pub invariant-loop-name : goal.invariant-loop-name
invariant-loop-name l = l.into ≡ l.initial.into ++ message_bytes (map card_is.Gimme (take l.name-index l.names))
